-- A plan's bytes (document 01): limit u64; then sections, each after its u32 count: spaces (no bytes), devices (bitmap u64, range count, ranges), attachments (device id, space id),
-- commands (request, command length, range length, command bytes, range area).
use Rattle.std.specs.Prelude.{ℕ, zero, suc, ◌+◌, ◌*◌, Bool, ◌&&◌, List, [], ◌∷◌, leb, eqb, length, take, drop}
use Rattle.rangelists.specs.Listed.{Reserved}
use Rattle.wire.specs.Fields.{field}
use Rattle.rules_calls.specs.Allow.{column}
use Rattle.plan_shape.specs.declared.Section.{Section}
use Rattle.plan_shape.specs.declared.Section.TheVariants.{Devices, Attachments, Commands}

-- ---- where items and sections end. A field counts with its full width, also where the bytes are cut; so the end of a cut plan lies past its last byte.

unfoldable pub device_end : List ℕ → ℕ → ℕ
device_end bs at = at + (12 + 16 * field 4 bs (at + 8))

unfoldable pub command_end : List ℕ → ℕ → ℕ
command_end bs at = at + (12 + field 4 bs (at + 4) + field 4 bs (at + 8))

unfoldable pub item_end : Section → List ℕ → ℕ → ℕ
item_end Devices bs at = device_end bs at
item_end Attachments bs at = at + 8
item_end Commands bs at = command_end bs at

-- the end of so many items
unfoldable pub items_end : Section → ℕ → List ℕ → ℕ → ℕ
items_end k zero bs at = at
items_end k (suc n) bs at = items_end k n bs (item_end k bs at)

-- the end of a section whose count stands at a place
unfoldable pub section_end : Section → List ℕ → ℕ → ℕ
section_end k bs at = items_end k (field 4 bs at) bs (at + 4)

-- the places of the counts: spaces at 8, devices at 12
unfoldable pub attachments_at : List ℕ → ℕ
attachments_at bs = section_end Devices bs 12

unfoldable pub commands_at : List ℕ → ℕ
commands_at bs = section_end Attachments bs (attachments_at bs)

unfoldable pub plan_end : List ℕ → ℕ
plan_end bs = section_end Commands bs (commands_at bs)

-- neither longer than 65,536 bytes nor cut nor overlong
unfoldable pub whole : List ℕ → Bool
whole bs = leb (length bs) 65536 && eqb (plan_end bs) (length bs)

-- ---- what the items say

-- so many bytes from a place on
unfoldable pub part : ℕ → ℕ → List ℕ → List ℕ
part from n bs = take n (drop from bs)

pub record Device : Type 0 where
  pub bitmap : ℕ
  pub reserved : Reserved

pub record Pair : Type 0 where
  pub device : ℕ
  pub space : ℕ

pub record Order : Type 0 where
  pub request : ℕ
  pub bytes : List ℕ
  pub area : List ℕ

-- the first 4 ranges; bind refuses a count above 4
unfoldable pub reserved_in : ℕ → List ℕ → Reserved
reserved_in count area = record { count = count; starts = column 0 count 0 4 area; lasts = column 8 count 0 4 area }

unfoldable pub device_at : List ℕ → ℕ → Device
device_at bs at = record { bitmap = field 8 bs at; reserved = reserved_in (field 4 bs (at + 8)) (part (at + 12) (16 * field 4 bs (at + 8)) bs) }

unfoldable pub pair_at : List ℕ → ℕ → Pair
pair_at bs at = record { device = field 4 bs at; space = field 4 bs (at + 4) }

unfoldable pub order_at : List ℕ → ℕ → Order
order_at bs at = record { request = field 4 bs at; bytes = part (at + 12) (field 4 bs (at + 4)) bs; area = part (at + 12 + field 4 bs (at + 4)) (field 4 bs (at + 8)) bs }

unfoldable pub devices : ℕ → List ℕ → ℕ → List Device
devices zero bs at = []
devices (suc n) bs at = device_at bs at ∷ devices n bs (item_end Devices bs at)

unfoldable pub pairs : ℕ → List ℕ → ℕ → List Pair
pairs zero bs at = []
pairs (suc n) bs at = pair_at bs at ∷ pairs n bs (item_end Attachments bs at)

unfoldable pub orders : ℕ → List ℕ → ℕ → List Order
orders zero bs at = []
orders (suc n) bs at = order_at bs at ∷ orders n bs (item_end Commands bs at)

-- ---- the plan

pub record Plan : Type 0 where
  pub limit : ℕ
  pub spaces : ℕ
  pub bound : List Device
  pub attached : List Pair
  pub commands : List Order

unfoldable pub plan_of : List ℕ → Plan
plan_of bs =
    record {
      limit = field 8 bs 0;
      spaces = field 4 bs 8;
      bound = devices (field 4 bs 12) bs 16;
      attached = pairs (field 4 bs (attachments_at bs)) bs (attachments_at bs + 4);
      commands = orders (field 4 bs (commands_at bs)) bs (commands_at bs + 4);
    }
