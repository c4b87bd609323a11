-- Laws of a line: a start by its numbers, and a line by its first piece.
-- Assumes nothing.
use Rattle.std.specs.Prelude.{◌≡◌, true, false, cond, Option, Some, None, List, [], ◌∷◌, ◌++◌, ℕ, suc, ◌-◌, ◌≤◌, ◌<◌, leb, eqb, length, take, drop, replicate}
use Rattle.std.proofs.Math.Path.{refl}
use Rattle.std.proofs.Common.{ap, ◌∙◌, inl, inr, arith, take_at, le-leb, leb-false, eqb-true, ne_eqb}
use Rattle.std.proofs.lemmas.Bool.{lt-leb}
use Rattle.bits.specs.AllLaws.{either}
use Rattle.levels.specs.Order.{most_levels}
use Rattle.script.specs.Script.{bad, too_many, starts, all_numbers, values, start_of, order_of, call_of, line_of, same_word, start_word, read_line}
use Rattle.script.specs.Pieces.{first, afterwards, numbers_from, no_values}
use Rattle.script.specs.PiecesLaws.{pieces_first, take_first}
use Rattle.script.specs.NumbersLaws.{Next, Missed, none, other, numbers_are}
use Rattle.script.specs.CallLaws.{no_more}
use Rattle.script.specs.declared.Command.{Command}
use Rattle.script.specs.declared.pieces.Numbers.{Numbers}

pub length_values : (ps : List (List ℕ)) → length (values ps) ≡ length ps
unfolding values
length_values [] = refl
length_values (p ∷ ps) = ap suc (length_values ps)

-- ---- a start

pub no_count : {ps : List (List ℕ)} → Missed ps → start_of ps ≡ bad
unfolding start_of
no_count none = refl
no_count (other e) = rw e

pub count_over : {l : List ℕ} {at n e : ℕ} → Next l at n e → most_levels < n → start_of (afterwards (drop at l)) ≡ too_many n
unfolding start_of
count_over {l} {at} c h = rw (c.follows, c.number, c.is, lt-leb _ _ h)

pub no_top : {l : List ℕ} {at n e : ℕ} → Next l at n e → n ≤ most_levels → Missed (afterwards (drop e l)) → start_of (afterwards (drop at l)) ≡ bad
unfolding start_of
no_top {l} {at} {n} {e} c h m = rw (c.follows, c.number, c.is, le-leb _ _ h) (go m)
  where
    go : {ps : List (List ℕ)} → Missed ps → cond (all_numbers ps) (order_of n (values ps)) bad ≡ bad
    go none = unfold all_numbers values order_of in refl
    go (other e) = unfold all_numbers in rw e

-- count and top, and the rows that were read
unfoldable pub start_with : ℕ → ℕ → Option Numbers → Option Command
start_with n t None = bad
start_with n t (Some ns) = cond (eqb ns.count n) (starts (record { rows = ns.values; count = n; top = t })) bad

-- so many rows as the count says, and zeros after them
rows_fit : (vs : List ℕ) (n t : ℕ) → order_of n (t ∷ vs) ≡ cond (eqb (length vs) n) (starts (record { rows = vs ++ replicate (16 - length vs) 0; count = n; top = t })) bad
unfolding order_of
rows_fit vs n t =
    elim (either (eqb (length vs) n)) [
      | inl h ↦ rw (eqb-true (length vs) n h)
      | inr h ↦ rw h
    ]

rows_read : (n t : ℕ) (ps : List (List ℕ)) → n ≤ most_levels → cond (all_numbers ps) (order_of n (t ∷ values ps)) bad ≡ start_with n t (numbers_from no_values 0 ps)
unfolding start_with
rows_read n t ps h = rw (rows_fit, length_values ps, numbers_are ps)
    (elim (either (all_numbers ps)) [
      | inl a ↦ elim (either (leb (length ps) 16)) [
        | inl b ↦ rw (a, b)
        | inr b ↦ rw (a, b, ne_eqb (length ps) n (omega (arith, leb-false (length ps) 16 b)))
      ]
      | inr a ↦ rw a
    ])

pub start_read : {l : List ℕ} {at n e t f : ℕ} {ns : Option Numbers} → Next l at n e → n ≤ most_levels → Next l e t f → ns ≡ numbers_from no_values 0 (afterwards (drop f l))
    → start_of (afterwards (drop at l)) ≡ start_with n t ns
unfolding start_of all_numbers values
start_read {n = n} {t = t} c h d r = rw (c.follows, c.number, c.is, le-leb _ _ h, d.follows, d.number, d.is, r) (rows_read n t _ h)

-- ---- a call

-- what a word is with the numbers that were read
unfoldable pub call_with : List ℕ → Option Numbers → Option Command
call_with w None = bad
call_with w (Some ns) = call_of w (take ns.count ns.values)

pub call_numbers : (w : List ℕ) (ps : List (List ℕ)) → cond (all_numbers ps) (call_of w (values ps)) bad ≡ call_with w (numbers_from no_values 0 ps)
unfolding call_with
call_numbers w ps = rw (numbers_are ps)
    (elim (either (all_numbers ps)) [
      | inl a ↦ elim (either (leb (length ps) 16)) [
        | inl b ↦ rw (a, b, take_at (values ps) (replicate (16 - length ps) 0) (length ps) (length_values ps))
        | inr b ↦ rw (a, b) (no_more w (values ps) (omega (arith, leb-false (length ps) 16 b, length_values ps)))
      ]
      | inr a ↦ rw a
    ])

-- ---- a line, whose first piece ends at `end`

by_word : (l : List ℕ) (end : ℕ) → end ≡ length (first l) → read_line l ≡ line_of (take end l ∷ afterwards (drop end l))
unfolding read_line
by_word l end e = rw (e, pieces_first l, take_first l)

pub line_start : (l : List ℕ) (end : ℕ) → end ≡ length (first l) → same_word (take end l) start_word ≡ true → read_line l ≡ start_of (afterwards (drop end l))
unfolding line_of
line_start l end e h = by_word l end e ∙ rw h

pub line_call : (l : List ℕ) (end : ℕ) → end ≡ length (first l) → same_word (take end l) start_word ≡ false → read_line l ≡ call_with (take end l) (numbers_from no_values 0 (afterwards (drop end l)))
unfolding line_of
line_call l end e h = by_word l end e ∙ rw h (call_numbers (take end l) (afterwards (drop end l)))
