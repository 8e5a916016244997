-- What a host call asks, as one record, and the edit that it decides on any table (document 01, "Host calls, checks in order after 117"). Reach, charge and next change
-- nothing: their edit carries the number that they tell.
use Rattle.std.specs.Prelude.{ℕ, ◌+◌, ◌^◌, ◌≡◌, refl, Bool, false, [], ◌∷◌, map, replicate}
use Rattle.rangelists.specs.Listed.{Reserved}
use Rattle.rules_table.specs.declared.Attachment.TheVariants.{Loose}
use Rattle.rules_table.specs.declared.Kind.TheVariants.{Device}
use Rattle.rules_table.specs.declared.Object.{Object}
use Rattle.rules_table.specs.declared.Table.{Table}
use Rattle.rules_table.specs.Records.{no_reserved, no_allowed, free_object, new_space, zero_mapping, fresh_table}
use Rattle.rules_table.specs.Charge.{charge}
use Rattle.rules_calls.specs.declared.Edit.{Edit}
use Rattle.rules_calls.specs.Edits.{settle, refuse, tells}
use Rattle.rules_calls.specs.Bind.{bind_edit, binds}
use Rattle.rules_calls.specs.Attach.{attach_edit, detach_edit, attaches}
use Rattle.rules_calls.specs.Reach.{reach_of, reaches}
use Rattle.rules_calls.specs.Next.{next_edit, nexts}
use Rattle.rules_calls.specs.declared.Act.{Act}
use Rattle.rules_calls.specs.declared.Act.TheVariants.{Bind, Attach, Detach, Reach, Charge, Next}
use Rattle.rules_calls.specs.declared.Order.{Order}
use Rattle.rules_calls.specs.declared.Reached.{Reached}
use Rattle.rules_calls.specs.Results.{signed_result}
use Rattle.rules_calls.specs.Gate.{table_errno, gates}

abbrev pub order_for : Act → ℕ → ℕ → Order
order_for act a b = record { act = act; first = a; second = b; bitmap = 0; reserved = no_reserved; address = 0; length = 0 }

abbrev pub bind_order : ℕ → Reserved → Order
bind_order bitmap l = record { act = Bind; first = 0; second = 0; bitmap = bitmap; reserved = l; address = 0; length = 0 }

abbrev pub attach_order : ℕ → ℕ → Order
attach_order device space = order_for Attach space device

abbrev pub detach_order : ℕ → Order
detach_order device = order_for Detach device 0

abbrev pub reach_order : ℕ → ℕ → ℕ → Bool → Order
reach_order device a n write = record { act = Reach write; first = device; second = 0; bitmap = 0; reserved = no_reserved; address = a; length = n }

abbrev pub charge_order : Order
charge_order = order_for Charge 0 0

abbrev pub next_order : ℕ → ℕ → Order
next_order space a = record { act = Next; first = space; second = 0; bitmap = 0; reserved = no_reserved; address = a; length = 0 }

-- what is decided over a good table
abbrev pub act_edit : Table → Order → Act → Edit
act_edit t o Bind = bind_edit t.objects o.bitmap o.reserved
act_edit t o Attach = attach_edit t.objects t.mappings o.second o.first
act_edit t o Detach = detach_edit t.objects o.first
act_edit t o (Reach write) = reach_of t.objects t.mappings o.first o.address o.length write
act_edit t o Charge = tells (charge t.mappings)
act_edit t o Next = next_edit t.objects t.mappings o.first o.address

unfoldable pub host_edit : Table → Order → Edit
host_edit t o = settle (table_errno t) (act_edit t o o.act)

-- reach by value: the address beside its 0
abbrev pub reached_by : Edit → Reached
reached_by e = record { result = signed_result e.errno; address = e.value }

-- ---- examples: to unfold `orders` is to unfold all that it lists

unfoldable orders : Table → Order → Edit
unfolding host_edit gates binds attaches reaches nexts
orders t o = host_edit t o

-- on a fresh table the charge is 0, bind gives the id 1, and there is no device to attach, detach or reach from and no space with a next mapping
fresh-charge : host_edit (fresh_table 4) charge_order ≡ tells 0
unfolding orders
fresh-charge = refl

fresh-bind : (host_edit (fresh_table 4) (bind_order 0x1000 no_reserved)).value ≡ 1
unfolding orders
fresh-bind = refl

fresh-missing : map (host_edit (fresh_table 4)) (attach_order 1 2 ∷ detach_order 1 ∷ reach_order 1 0 1 false ∷ next_order 1 0 ∷ []) ≡ (refuse 2 ∷ refuse 2 ∷ refuse 2 ∷ refuse 2 ∷ [])
unfolding orders
fresh-missing = refl

-- a bad table: its limit is one too high
bad-table : map (host_edit (fresh_table (2 ^ 36 + 1))) (charge_order ∷ attach_order 1 2 ∷ next_order 1 0 ∷ []) ≡ (refuse 117 ∷ refuse 117 ∷ refuse 117 ∷ [])
unfolding orders
bad-table = refl

-- space 1 and the loose device 2: the device is named first
abbrev loose : Object
loose = record { kind = Device Loose; bitmap = 0x1000; reserved = no_reserved; allow = no_allowed }

abbrev one : Table
one = record { limit = 4; objects = new_space ∷ loose ∷ replicate 30 free_object; mappings = replicate 128 zero_mapping }

attach_named : ((host_edit one (attach_order 2 1)).errno ∷ (host_edit one (attach_order 1 2)).errno ∷ []) ≡ (0 ∷ 2 ∷ [])
unfolding orders
attach_named = refl

-- space 1 has no mapping; 2 is no space
next-named : map (λ (s : ℕ). host_edit one (next_order s 0)) (1 ∷ 2 ∷ []) ≡ (tells 0 ∷ refuse 2 ∷ [])
unfolding orders
next-named = refl
