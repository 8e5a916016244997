-- What bind refuses of a device's fields and ALLOW_IOVAS of a list, said once: the calls ask it of what they are given, 117 of what stands in the table.
use Rattle.std.specs.Prelude.{ℕ, Bool, not, ◌||◌, true, false, List, [], ◌∷◌, ltb, eqb, ◌≡◌, refl, replicate}
use Rattle.lists.specs.Checks.{Check, when, all_pass}
use Rattle.alignment.specs.Pages.{smallest_page}
use Rattle.rangelists.specs.Listed.{Reserved, Allowed, reserved, allowed, valid, overlap, ordered, listed, places, ranges_in}
use Rattle.rules_table.specs.declared.Attachment.TheVariants.{Loose}
use Rattle.rules_table.specs.Limits.{most_page, most_reserved, most_allowed}
use Rattle.rules_table.specs.declared.Object.{Object}
use Rattle.std.specs.Int.Count.{count_trailing_zeros}
use Rattle.lists.specs.Search.{any, all}
use Rattle.lists.specs.Pairs.{clashes}
use Rattle.ranges.specs.Ranges.{share, shared_start, shared_last}
use Rattle.rules_table.specs.declared.Kind.TheVariants.{Space, Device}
use Rattle.rules_table.specs.Records.{no_reserved, no_allowed}

-- bitmap 0, or its lowest bit above 4,096: 22; over 4 ranges 22; a start above its last 22
unfoldable pub bind_checks : ℕ → Reserved → List (Check ℕ)
bind_checks bitmap l =
    when (eqb bitmap 0 || ltb most_page (smallest_page bitmap)) 22
    ∷ when (ltb most_reserved l.count) 22
    ∷ when (not (valid (reserved l))) 22
    ∷ []

-- count over 8: 12
abbrev pub too_many : ℕ → Check ℕ
too_many count = when (ltb most_allowed count) 12

-- a start above its last, or two ranges that overlap: 22
abbrev pub bad_list : Allowed → Check ℕ
bad_list l = when (not (valid (allowed l)) || overlap (allowed l)) 22

-- bind takes the fields of the device
unfoldable pub device_fits : Object → Bool
device_fits o = all_pass (bind_checks o.bitmap o.reserved)

-- ALLOW_IOVAS takes the list of the space
unfoldable pub list_fits : Object → Bool
list_fits o = all_pass (too_many o.allow.count ∷ bad_list o.allow ∷ [])

-- ---- examples

-- a device with its page sizes and one range; a space with two ranges
abbrev device : ℕ → ℕ → ℕ → Object
device bitmap start last = record { kind = Device Loose; bitmap = bitmap; reserved = record { count = 1; starts = start ∷ replicate 3 0; lasts = last ∷ replicate 3 0 }; allow = no_allowed }

abbrev space : ℕ → ℕ → ℕ → ℕ → Object
space a b c d = record { kind = Space; bitmap = 0; reserved = no_reserved; allow = record { count = 2; starts = a ∷ c ∷ replicate 6 0; lasts = b ∷ d ∷ replicate 6 0 } }

-- pages of 4,096, of 8,192, none; a start at its last and above it
device-fits : (device_fits (device 0x1000 0 1) ∷ device_fits (device 0x2000 0 1) ∷ device_fits (device 0 0 1) ∷ device_fits (device 1 5 5) ∷ device_fits (device 1 6 5) ∷ []) ≡ (true ∷ false ∷ false ∷ true ∷ false ∷ [])
unfolding device_fits bind_checks smallest_page count_trailing_zeros ranges_in listed places ordered valid all any
device-fits = refl

-- neighbours, a shared address, a start above its last
list_fits-is : (list_fits (space 0 9 10 19) ∷ list_fits (space 0 10 10 19) ∷ list_fits (space 9 0 10 19) ∷ []) ≡ (true ∷ false ∷ false ∷ [])
unfolding list_fits ranges_in listed places ordered valid overlap clashes any share shared_start shared_last all
list_fits-is = refl
