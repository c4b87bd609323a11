-- The first 128 bytes settle what a line means: a longer one is bad, or a start with a count over sixteen. So a program need not keep more.
-- Assumes nothing.
use Rattle.std.specs.Prelude.{◌≡◌, true, cond, Option, List, [], ◌∷◌, ◌++◌, ℕ, suc, ◌+◌, ◌*◌, ◌≤◌, ◌<◌, leb, eqb, length, drop}
use Rattle.std.proofs.Math.Path.{refl}
use Rattle.std.proofs.Common.{sym, ap, ◌∙◌, inl, inr, arith, length-append, leb-true, ne_eqb}
use Rattle.std.proofs.Math.Decide.{dec_lt}
use Rattle.bits.specs.AllLaws.{either, and_l, and_r}
use Rattle.levels.specs.Order.{most_levels}
use Rattle.script.specs.Script.{bad, too_many, space, into, pieces, is_number, value, all_numbers, values, same_word, start_word, call_of, start_of, order_of, line_of, read_line}
use Rattle.script.specs.Pieces.{first, afterwards}
use Rattle.script.specs.PiecesLaws.{cond_both, same_eq, same_length, pieces_first, number_short, too_long}
use Rattle.script.specs.CallLaws.{no_more, long_word}
use Rattle.script.specs.LineLaws.{length_values}
use Rattle.script.specs.declared.Command.{Command}

-- ---- how long pieces are, a space for each

spans : List (List ℕ) → ℕ
spans [] = 0
spans (p ∷ ps) = suc (length p) + spans ps

pieces_span : (l : List ℕ) → spans (pieces l) ≡ suc (length l)
unfolding pieces into spans
pieces_span [] = refl
pieces_span (b ∷ bs) =
    let h = rw (pieces_first bs) at (pieces_span bs) in
    rw (pieces_first bs) (elim (either (eqb b space)) [ inl t ↦ rw t (omega arith) | inr t ↦ rw t (omega arith) ])

numbers_span : (ps : List (List ℕ)) → all_numbers ps ≡ true → spans ps ≤ 6 * length ps
unfolding all_numbers spans
numbers_span [] e = omega arith
numbers_span (p ∷ ps) e = omega (arith, number_short p (and_l _ _ e), numbers_span ps (and_r (is_number p) _ e))

-- ---- a long line

long_start : List (List ℕ) → Option Command
long_start [] = bad
long_start (p ∷ ps) = cond (is_number p) (cond (leb (value p) most_levels) bad (too_many (value p))) bad

long_line : List (List ℕ) → Option Command
long_line [] = bad
long_line (w ∷ ps) = cond (same_word w start_word) (long_start ps) bad

rows_over : (n : ℕ) (ps : List (List ℕ)) → n ≤ most_levels → 102 < spans ps → cond (all_numbers ps) (order_of n (values ps)) bad ≡ bad
unfolding order_of values spans
rows_over n [] h l = cond_both (all_numbers []) bad
rows_over n (p ∷ ps) h l =
    elim (either (all_numbers (p ∷ ps))) [
      | inl a ↦ rw (ne_eqb (length (values ps)) n (omega (arith, length_values ps, numbers_span (p ∷ ps) a))) (cond_both (all_numbers (p ∷ ps)) bad)
      | inr a ↦ rw a
    ]

start_over : (ps : List (List ℕ)) → 108 < spans ps → start_of ps ≡ long_start ps
unfolding start_of long_start spans
start_over [] l = refl
start_over (p ∷ ps) l =
    elim (either (is_number p)) [
      | inl e ↦ elim (either (leb (value p) most_levels)) [
        | inl h ↦ rw (e, h) (rows_over (value p) ps (leb-true _ _ h) (omega (arith, number_short p e)))
        | inr h ↦ rw (e, h)
      ]
      | inr e ↦ rw e
    ]

call_over : (w : List ℕ) (ps : List (List ℕ)) → 114 < spans (w ∷ ps) → cond (all_numbers ps) (call_of w (values ps)) bad ≡ bad
unfolding spans
call_over w ps l =
    elim (either (all_numbers ps)) [
      | inl a ↦ elim (dec_lt 5 (length ps)) [
        | yes h ↦ rw (no_more w (values ps) (omega (arith, length_values ps))) (cond_both (all_numbers ps) bad)
        | no h ↦ rw (long_word w (values ps) (omega (arith, numbers_span ps a))) (cond_both (all_numbers ps) bad)
      ]
      | inr a ↦ rw a
    ]

line_over : (ps : List (List ℕ)) → 114 < spans ps → line_of ps ≡ long_line ps
unfolding line_of long_line spans start_word
line_over [] l = refl
line_over (w ∷ ps) l =
    elim (either (same_word w start_word)) [
      | inl e ↦ rw e (start_over ps (omega (arith, ap length (same_eq w start_word e))))
      | inr e ↦ rw e (call_over w ps l)
    ]

-- ---- a line that goes on

onto : List ℕ → List (List ℕ) → List (List ℕ)
onto p [] = p ∷ []
onto p (q ∷ qs) = (p ++ q) ∷ qs

-- the last piece goes on as the first of the others
joined : List (List ℕ) → List (List ℕ) → List (List ℕ)
joined [] qs = qs
joined (p ∷ []) qs = onto p qs
joined (p ∷ q ∷ ps) qs = p ∷ joined (q ∷ ps) qs

into_onto : (b : ℕ) (p : List ℕ) (qs : List (List ℕ)) → into b (onto p qs) ≡ onto (b ∷ p) qs
unfolding into onto
into_onto b p [] = refl
into_onto b p (q ∷ qs) = refl

into_joined : (b : ℕ) (p : List ℕ) (ps qs : List (List ℕ)) → into b (joined (p ∷ ps) qs) ≡ joined ((b ∷ p) ∷ ps) qs
unfolding into joined
into_joined b p [] qs = into_onto b p qs
into_joined b p (r ∷ ps) qs = refl

pieces_joined : (l m : List ℕ) → pieces (l ++ m) ≡ joined (pieces l) (pieces m)
unfolding pieces joined onto into
pieces_joined [] m = rw (pieces_first m)
pieces_joined (b ∷ bs) m =
    let rest = afterwards (drop (length (first bs)) bs) in
    rw (pieces_joined bs m, pieces_first bs) (elim (either (eqb b space)) [ inl t ↦ rw t | inr t ↦ rw t (into_joined b (first bs) rest (pieces m)) ])

long_first : (p : List ℕ) (ps : List (List ℕ)) → 5 < length p → long_line (p ∷ ps) ≡ bad
unfolding long_line start_word
long_first p ps h = rw (same_length p start_word (omega arith))

long_count : (p : List ℕ) (ps : List (List ℕ)) → 5 < length p → long_start (p ∷ ps) ≡ bad
unfolding long_start
long_count p ps h = rw (too_long p h)

-- what follows more than the first two pieces, or a first or a second that is too long, changes nothing
long_joined : (ps qs : List (List ℕ)) → 114 < spans ps → long_line (joined ps qs) ≡ long_line ps
unfolding long_line joined onto spans start_word
long_joined [] qs l = absurd (omega arith)
long_joined (w ∷ []) [] l = refl
long_joined (w ∷ []) (q ∷ qs) l = long_first (w ++ q) qs (omega (arith, length-append w q)) ∙ sym (long_first w [] (omega arith))
long_joined (w ∷ c ∷ []) [] l = refl
long_joined (w ∷ c ∷ []) (q ∷ qs) l =
    elim (either (same_word w start_word)) [
      | inl e ↦ let n = ap length (same_eq w start_word e) in rw (e, long_count (c ++ q) qs (omega (arith, length-append c q)), long_count c [] (omega arith))
      | inr e ↦ rw e
    ]
long_joined (w ∷ c ∷ d ∷ ps) qs l = unfold long_start in refl

pub long_lines : (p rest : List ℕ) → 128 ≤ length p → read_line (p ++ rest) ≡ read_line p
unfolding read_line
long_lines p rest h =
    let e = pieces_span p in
    let f = rw pieces_joined at (pieces_span (p ++ rest)) in
    rw pieces_joined (line_over (joined (pieces p) (pieces rest)) (omega (arith, length-append p rest)) ∙ long_joined (pieces p) (pieces rest) (omega arith) ∙ sym (line_over (pieces p) (omega arith)))
