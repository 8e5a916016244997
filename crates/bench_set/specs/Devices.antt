-- What the bench set does not ask, in whole calls from a fresh table: a device in use, and what a device reaches of a copy.
use Rattle.std.specs.Prelude.{◌^◌, ◌≡◌, refl, true, false, List, [], ◌∷◌, ◌++◌, pos, negsuc}
use Rattle.rules_table.specs.declared.Table.{Table}
use Rattle.rules_table.specs.Records.{fresh_table}
use Rattle.rules_calls.specs.Named.{reach_call}
use Rattle.rules_history.specs.Calls.{Call, Command, Bind, Attach, after}
use Rattle.bench_set.specs.Rows.{Row, case_holds}
use Rattle.bench_set.specs.Cases.{u32, read, map_command, copy_command, alloc_command, minus, refuses, new_space, plan_reserved, bound, attached, case}
use Rattle.bench_set.specs.Computing.{going, running}

-- a host call that is refused
abbrev host_refuses : Call → Row
host_refuses c = record { call = c; result = minus 22; bytes = []; area = []; charge = 0 }

-- DESTROY of the attached device, and of its space: -16; bind without a page: -22; attach of an attached device: -16
abbrev in_use : List Row
in_use =
    new_space 1 ∷ bound ∷ attached
    ∷ refuses 0x3B80 (u32 8 ++ u32 2) 16 0
    ∷ refuses 0x3B80 (u32 8 ++ u32 1) 16 0
    ∷ host_refuses (Bind 0 plan_reserved)
    ∷ record { call = Attach 2 1; result = minus 16; bytes = []; area = []; charge = 0 }
    ∷ []

pub device-in_use : case_holds (case 0 in_use) ≡ true
unfolding running
device-in_use = refl

-- a page that is mapped readable and writeable in space 1, from memory 0x10000 on, and copied readable alone to space 2, to which device 3 is attached
abbrev with_copy : Table
with_copy =
    after
    (Command 0x3B81 (alloc_command 7) []
    ∷ Command 0x3B81 (alloc_command 7) []
    ∷ Bind 4096 plan_reserved
    ∷ Attach 3 2
    ∷ Command 0x3B85 (map_command 6 1 0x10000 4096 7) []
    ∷ Command 0x3B83 (copy_command read 2 1 4096 7 0) []
    ∷ [])
    (fresh_table (2 ^ 36))

-- 100 bytes from address 16 on: for reading they are there, at the same offset of the memory
pub copy_read : reach_call with_copy 3 16 100 false ≡ record { result = pos 0; address = 0x10010 }
unfolding going
copy_read = refl

-- for writing they are refused, though the founding MAP is writeable: -1
pub copy_written : reach_call with_copy 3 16 100 true ≡ record { result = negsuc 0; address = 0 }
unfolding going
copy_written = refl

-- the last of 100 bytes from 3,997 on is one past the page: -14
pub copy_passed : reach_call with_copy 3 3997 100 false ≡ record { result = negsuc 13; address = 0 }
unfolding going
copy_passed = refl
