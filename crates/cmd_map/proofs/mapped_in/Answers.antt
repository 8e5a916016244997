-- The numbers, the place or the room refused, or the mapping is made.
use Rattle.std.specs.Prelude.{Err}
use mathlib.Core.Path.{◌≡◌}
use borrow.Author.Rules.{rules}
use Rattle.rules_table.specs.Words.{head_in, objects_in}
use Rattle.layout_mappings.specs.Words.{records_of}
use Rattle.table.specs.Paged.{page-known, page-aligned}
use Rattle.cmd_map.proofs.Deciding.{alignment-pos, numbers-known, by-numbers, by_place, by-room, by-making}
use Rattle.cmd_map.proofs.Making.{backing-fits}
use Rattle.cmd_map.proofs.mapped_in.Goals as goal

pub returns-in_err-check_numbers : goal.returns-in_err-check_numbers
returns-in_err-check_numbers c = λ e.
    let is : c.from_residual.result ≡ Err c.in_err-check_numbers.field-0.0 = search rules in
    let a = c.args in
    let os = objects_in a.h.now in
    by-numbers (head_in a.h.now).limit os (records_of a.ms.now.records.now) a.t a.zero a.memory _ _ (c.in_err-check_numbers.ensures os (page-known os a.t.space a.a e)) is

pub place_in-requires : goal.place_in-requires
place_in-requires c = c.requires.1 (alignment-pos c.args.a c.args.t c.args.zero c.args.memory c.in_ok-check_numbers.ensures)

pub returns-in_err-address : goal.returns-in_err-address
returns-in_err-address c = λ e.
    let is : c.from_residual-in_err-address.result ≡ Err c.in_err-address.field-0.0 = search rules in
    let a = c.args in
    let os = objects_in a.h.now in
    let ms = records_of a.ms.now.records.now in
    let limit = (head_in a.h.now).limit in
    let passed = c.in_ok-check_numbers.ensures os (page-known os a.t.space a.a e) in
    by_place limit os ms a.t a.zero a.memory passed _ _
    (c.in_err-address.ensures (page-aligned os a.t.space a.a e (numbers-known limit os ms a.t a.zero a.memory passed))) is

pub returns-in_err-check_room : goal.returns-in_err-check_room
returns-in_err-check_room c = λ e.
    let is : c.from_residual-in_err-check_room.result ≡ Err c.in_err-check_room.field-0.0 = search rules in
    let a = c.args in
    let os = objects_in a.h.now in
    let ms = records_of a.ms.now.records.now in
    let limit = (head_in a.h.now).limit in
    let passed = c.in_ok-check_numbers.ensures os (page-known os a.t.space a.a e) in
    let at = c.in_ok-address.ensures (page-aligned os a.t.space a.a e (numbers-known limit os ms a.t a.zero a.memory passed)) in
    by-room limit os ms a.t a.zero a.memory passed _ at _ (c.survey_of-v.ensures c.requires.2.0 c.requires.2.1) _ _ c.limit_of.ensures c.pages_touched-pages.ensures.0 _ _
    c.in_err-check_room.ensures is

pub number_in-requires : goal.number_in-requires
number_in-requires c = backing-fits (records_of c.args.ms.now.records.now) _ (c.survey_of-v.ensures c.requires.2.0 c.requires.2.1)

pub returns : goal.returns
returns c = λ e.
    let a = c.args in
    let os = objects_in a.h.now in
    let ms = records_of a.ms.now.records.now in
    let limit = (head_in a.h.now).limit in
    let passed = c.in_ok-check_numbers.ensures os (page-known os a.t.space a.a e) in
    let at = c.in_ok-address.ensures (page-aligned os a.t.space a.a e (numbers-known limit os ms a.t a.zero a.memory passed)) in
    by-making limit os ms a.t a.zero a.memory passed _ at _ (c.survey_of-v.ensures c.requires.2.0 c.requires.2.1) _ _ c.limit_of.ensures c.pages_touched-pages.ensures.0 _ _ _
    c.in_ok-check_room.ensures c.number_in.ensures c.founded-mapping.ensures c.put_new.ensures
