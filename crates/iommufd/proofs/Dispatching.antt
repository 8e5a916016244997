-- What each return of the dispatcher gives: a refusal before the command's own work, or what its arm decided.
use Rattle.std.specs.Prelude.{Some, Ok, Err}
use Prim.Native.Nat.{ℕ, zero, suc, ◌≤◌, ◌<◌}
use mathlib.Core.Path.{◌≡◌, refl, sym, ap, subst, ◌∙◌}
use mathlib.Core.Bool.{Bool, true, false, ◌&&◌}
use mathlib.Core.List.{List}
use native.Mathlib.Omega.{arith}
use Rattle.lists.specs.Tests.{by-test}
use Rattle.rules_calls.specs.declared.Command.{Command}
use Rattle.rules_calls.specs.declared.Command.TheVariants.{IovaRanges}
use Rattle.rules_calls.specs.Opening.{Opening}
use Rattle.rules_calls.specs.declared.Unopened.{Unopened}
use Rattle.rules_calls.specs.declared.Unopened.TheVariants.{UnknownRequest, NoSizeField, SizeTooSmall, SizePastBytes, TailNotZero}
use Rattle.rules_calls.specs.Requests.{request_of, lookup}
use Rattle.rules_calls.specs.Opening.{opened, opening_errno}
use Rattle.opening.specs.Opened.{opened-open}
use Rattle.opening.proofs.Lookups.{listed}
use Rattle.rules_table.specs.declared.Mapping.{Mapping}
use Rattle.rules_table.specs.declared.Table.{Table}
use Rattle.rules_table.specs.Good.{good}
use Rattle.rules_calls.specs.declared.Edit.{Edit}
use Rattle.rules_calls.specs.Edits.{refuse}
use Rattle.rules_calls.specs.declared.Answer.{Answer}
use Rattle.rules_calls.specs.Answers.{outcome}
use Rattle.rules_calls.specs.Ranges.{ranges_replied, ranges_filled}
use Rattle.edits.specs.Replies.{row_kept, gate-90, call-edit}
use Rattle.rules_calls.specs.Gate.{gate_errno}
use Rattle.cmd_space_bytes.specs.Replied.{RangesDone}
use Rattle.check_mappings.specs.Told.{page_of}
use Rattle.rules_calls.specs.Call.{Done, row_done, call_done, call_edit}
use Rattle.rules_index.specs.Index.{agrees}
use Rattle.rules_index.specs.Board.{Board, board_edit, board_done}
use Rattle.index.specs.Boards.{guarded-same, guarded-other, made-edit, made-done}
use Rattle.iommufd.specs.Deciding.{Left, Settled, Decided}

module _ (t : Table) (cmd area : List ℕ) (request : ℕ) where
  -- what an edit leaves is what the call leaves, if it is the call's
  from-edit : (e : Edit) (cmd' area' : List ℕ) → e ≡ call_edit t request cmd area → cmd' ≡ (row_done (lookup request) t e cmd area).bytes → area' ≡ (row_done (lookup request) t e cmd area).area → Settled t request cmd area e cmd' area'
  unfolding call_done
  from-edit e cmd' area' p q s = record {
    edit = p;
    reply = q ∙ ap (λ (x : Edit). (row_done (lookup request) t x cmd area).bytes) p;
    ranges = s ∙ ap (λ (x : Edit). (row_done (lookup request) t x cmd area).area) p;
  }

  -- a refusal before the command's own work
  pub refused : (n : ℕ) (e : Edit) → n ≡ gate_errno t request cmd → (n ≡ 0 → ⊥) → e ≡ refuse n → Settled t request cmd area e cmd area
  unfolding call_edit
  refused zero e g h k = absurd (h refl)
  refused (suc n) e g h k =
      let same : e.errno ≡ gate_errno t request cmd = ap (λ (x : Edit). x.errno) k ∙ g in
      let p = row_kept t e cmd area (λ z. h (g ∙ sym same ∙ z)) (λ z. gate-90 t request cmd (sym same ∙ z)) (lookup request) in
      from-edit e cmd area (k ∙ rw (← g)) (sym p.0) (sym p.1)

  -- the arm of a command that is open
  pub arm : (c : Command) (e : Edit) (cmd' area' : List ℕ) → good t ≡ true → opened request cmd ≡ Ok c → Left c t cmd area e cmd' area' → Settled t request cmd area e cmd' area'
  unfolding call_edit gate_errno
  arm c e cmd' area' g o l =
      let f : lookup request ≡ Some c = sym (listed c request (sym (opened-open request cmd c o).number)) in
      from-edit e cmd' area' (l.0 ∙ rw (g, o, f)) (l.1 ∙ rw f) (l.2 ∙ rw f)

  -- the same of a table that is this one
  pub arm-of : (u : Table) (c : Command) (e : Edit) (cmd' area' : List ℕ) → u ≡ t → good t ≡ true → opened request cmd ≡ Ok c → Left c u cmd area e cmd' area' → Settled t request cmd area e cmd' area'
  arm-of u c e cmd' area' q g o l = arm c e cmd' area' g o (rw (← q) l)

  -- 117, or the errno of the opening
  pub gate-bad : good t ≡ false → 117 ≡ gate_errno t request cmd
  unfolding gate_errno
  gate-bad g = rw g

  pub gate-closed : (o : Opening) (n : ℕ) → good t ≡ true → o ≡ opened request cmd → n ≡ opening_errno o → n ≡ gate_errno t request cmd
  unfolding gate_errno
  gate-closed o n g f k = k ∙ rw (g, f)

-- ---- with an index

-- with the index of its mappings, what is left over the table
pub on_board : (b : Board) (request : ℕ) (cmd area : List ℕ) (e : Edit) (cmd' area' : List ℕ) → agrees b.index b.table.mappings ≡ true → Settled b.table request cmd area e cmd' area' → Decided b request cmd area e cmd' area'
unfolding board_edit board_done call_done
on_board b request cmd area e cmd' area' a s =
    let same = sym (guarded-same b (call_edit b.table request cmd area) a) in
    record {
      edit = s.edit ∙ same;
      reply = s.reply ∙ ap (λ (x : Edit). (row_done (lookup request) b.table x cmd area).bytes) same;
      ranges = s.ranges ∙ ap (λ (x : Edit). (row_done (lookup request) b.table x cmd area).area) same;
    }

-- a bad table, or an index that is not its own
pub off_board : (b : Board) (request : ℕ) (cmd area : List ℕ) (e : Edit) → (good b.table && agrees b.index b.table.mappings) ≡ false → e ≡ refuse 117 → Decided b request cmd area e cmd area
unfolding board_edit board_done
off_board b request cmd area e v k =
    by-test (agrees b.index b.table.mappings)
    (λ a.
    let bad : good b.table ≡ false = and-true (good b.table) (agrees b.index b.table.mappings) a v in
    on_board b request cmd area e cmd area a (refused b.table cmd area request 117 e (gate-bad b.table cmd area request bad) (λ z. omega (arith, z)) k))
    (λ a.
    let same = k ∙ sym (guarded-other b (call_edit b.table request cmd area) a) in
    let n : e.errno ≡ 117 = ap (λ (x : Edit). x.errno) k in
    let p = row_kept b.table e cmd area (λ z. omega (arith, n, z)) (λ z. omega (arith, n, z)) (lookup request) in
    record {
      edit = same;
      reply = sym p.0 ∙ ap (λ (x : Edit). (row_done (lookup request) b.table x cmd area).bytes) same;
      ranges = sym p.1 ∙ ap (λ (x : Edit). (row_done (lookup request) b.table x cmd area).area) same;
    })
  where
    and-true : (a b : Bool) → b ≡ true → (a && b) ≡ false → a ≡ false
    and-true true b e f = sym e ∙ f
    and-true false b e f = refl

-- the reply of IOVA_RANGES, past the gate
pub ranges-left : (t : Table) (cmd area : List ℕ) (e : Edit) (cmd' area' : List ℕ) → e ≡ refuse e.errno → RangesDone t.objects e.errno cmd cmd' area area' → Left IovaRanges t cmd area e cmd' area'
unfolding ranges_replied ranges_filled
ranges-left t cmd area e cmd' area' k d = (k ∙ ap refuse d.errno, d.bytes, d.ranges)

-- ---- a command that is not open is refused

pub opened-none : (why : Unopened) (n : ℕ) → n ≡ opening_errno (Err why) → n ≡ 0 → ⊥
opened-none UnknownRequest n e z = omega (arith, e, z)
opened-none NoSizeField n e z = omega (arith, e, z)
opened-none SizeTooSmall n e z = omega (arith, e, z)
opened-none SizePastBytes n e z = omega (arith, e, z)
opened-none TailNotZero n e z = omega (arith, e, z)

-- ---- a command by its case

pub by-command : (t : Table) (cmd area : List ℕ) (e : Edit) (cmd' area' : List ℕ) (c k : Command) → c ≡ k → Left k t cmd area e cmd' area' → Left c t cmd area e cmd' area'
by-command t cmd area e cmd' area' c k q l = rw q l

pub sized : (c k : Command) (n : ℕ) → c ≡ k → (request_of c).size ≤ n → (request_of k).size ≤ n
sized c k n q h = rw (← q) h

-- ---- by value

-- with an index that was worked out from the records, a call is that on the table
pub decided-back : (t u : Table) (ms : List Mapping) (ix : List ℕ) (request : ℕ) (cmd area : List ℕ) (e : Edit) (cmd' area' : List ℕ) → u ≡ t → ms ≡ t.mappings
    → ((v : Table) → v.mappings ≡ ms → good v ≡ true → agrees ix ms ≡ true) → Decided record { table = u; index = ix } request cmd area e cmd' area' → Settled t request cmd area e cmd' area'
decided-back t u ms ix request cmd area e cmd' area' q w m d =
    let f : Decided record { table = t; index = ix } request cmd area e cmd' area' = subst (λ (v : Table). Decided record { table = v; index = ix } request cmd area e cmd' area') q d in
    let made : good t ≡ true → agrees ix t.mappings ≡ true = λ g. subst (λ (l : List Mapping). agrees ix l ≡ true) w (m t (sym w) g) in
    record {
      edit = f.edit ∙ made-edit record { table = t; index = ix } made request cmd area;
      reply = f.reply ∙ ap (λ (x : Done). x.bytes) (made-done record { table = t; index = ix } made request cmd area);
      ranges = f.ranges ∙ ap (λ (x : Done). x.area) (made-done record { table = t; index = ix } made request cmd area);
    }

-- the verdict on a table by value
pub good-back : (t u : Table) (ms : List Mapping) (ix : List ℕ) (b : Bool) → u ≡ t → ms ≡ t.mappings → ((v : Table) → v.mappings ≡ ms → good v ≡ true → agrees ix ms ≡ true) → b ≡ (good u && agrees ix ms) → b ≡ good t
good-back t u ms ix b q w m e =
    e ∙ ap (λ (v : Table). good v && agrees ix ms) q
    ∙ by-test (good t) (λ g. rw (g, m t (sym w) g) refl) (λ g. rw g refl)

pub call-done : (t : Table) (request : ℕ) (cmd area : List ℕ) (e : Edit) (a : Answer) (cmd' area' : List ℕ) → Settled t request cmd area e cmd' area' → a ≡ outcome t e
    → (a ≡ (call_done t request cmd area).answer) × (cmd' ≡ (call_done t request cmd area).bytes) × (area' ≡ (call_done t request cmd area).area)
call-done t request cmd area e a cmd' area' d h = (h ∙ ap (outcome t) d.edit ∙ sym (call-edit t request cmd area), d.reply, d.ranges)

-- ---- an alignment that is not 0 is that of an id

pub page-pos : (pages : List ℕ) (s t r : ℕ) → r ≡ page_of pages s → s ≡ t → 0 < r → 0 < t
unfolding page_of
page-pos pages zero t r e q h = absurd (omega (arith, e, h))
page-pos pages (suc s) t r e q h = omega (arith, q)
