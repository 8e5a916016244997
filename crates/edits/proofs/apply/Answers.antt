-- By the change.
use Rattle.edits.proofs.Storing.{by-nothing, by-put, by-drop, by_map, by-clear}
use Rattle.edits.proofs.apply.Goals as goal

pub returns-in-Nothing : goal.returns-in-Nothing
returns-in-Nothing c = by-nothing _ _ c.in-Nothing.is

pub returns-in-Put : goal.returns-in-Put
returns-in-Put c = by-put _ _ _ _ c.in-Put.is c.put_object.ensures

pub returns-in-Drop : goal.returns-in-Drop
returns-in-Drop c = by-drop _ _ _ _ c.in-Drop.is c.drop_space.ensures

pub returns-in-Map : goal.returns-in-Map
returns-in-Map c = by_map _ _ _ _ _ c.in-Map.is c.put_mapping.ensures

pub returns-in-Clear : goal.returns-in-Clear
returns-in-Clear c = by-clear _ _ _ _ _ c.in-Clear.is c.clear_inside.ensures
