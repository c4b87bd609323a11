-- Laws of text in a lent buffer.
-- Assumes nothing.
use Rattle.std.specs.Prelude.{◌≡◌, refl, List, [], ◌∷◌, ◌++◌, ℕ, suc, ◌+◌, ◌≤◌, min, max, leb, length, set, take}
use Rattle.std.proofs.Common.{sym, ap, ◌∙◌, inl, inr, arith, add-zero, append_assoc, append-nil, take_all, length-set, length-take, take-suc-set, length-append, leb-true, leb-false}
use Rattle.std.proofs.lemmas.List.Edits.{sets}
use Rattle.std.proofs.Math.Seq.{length-sets, set_out, take-append_seam}
use Rattle.bits.specs.AllLaws.{either}
use Rattle.script.specs.Print.{reply_line, Printed}
use Rattle.script.specs.PrintLaws.{reply_short}
use Rattle.script.specs.Stored.{Stored}
use Rattle.script.specs.declared.text.Text.{Text}
use Rattle.script.specs.declared.print.Reply.{Reply}

pub sets_append : (l : List ℕ) (i : ℕ) (a b : List ℕ) → sets l i (a ++ b) ≡ sets (sets l i a) (i + length a) b
sets_append l i [] b = rw add-zero
sets_append l i (x ∷ a) b =
    let e : i + suc (length a) ≡ suc i + length a = omega arith in
    rw e (sets_append (set l i x) (suc i) a b)

-- past the end nothing is stored
sets_out : (l : List ℕ) (i : ℕ) (t : List ℕ) → length l ≤ i → sets l i t ≡ l
sets_out l i [] h = refl
sets_out l i (x ∷ t) h = rw (set_out l i x h) (sets_out l (suc i) t (omega arith))

-- from where a text ends, or from where it would end with room for it
sets_from : (l : List ℕ) (at k : ℕ) (t : List ℕ) → sets l (max at (min (at + k) (length l))) t ≡ sets l (at + k) t
sets_from l at k t =
    elim (either (leb (at + k) (length l))) [
      | inl a ↦ let h = leb-true (at + k) (length l) a in let e : max at (min (at + k) (length l)) ≡ at + k = omega arith in rw e
      | inr a ↦ let h = leb-false (at + k) (length l) a in sets_out l _ t (omega arith) ∙ sym (sets_out l (at + k) t (omega arith))
    ]

-- one text after another
pub stored_then : {l m n : List ℕ} {s t : List ℕ} {at e f : ℕ} → Stored l at s m e → Stored m e t n f → Stored l at (s ++ t) n f
stored_then {l} {m} {n} {s} {t} {at} p q =
    record {
      stored = q.stored ∙ rw (p.stored, p.ends, ← length-sets l at s) (sets_from (sets l at s) at (length s) t) ∙ sym (sets_append l at s t);
      ends = omega (arith, q.ends, p.ends, length-append s t, ap length p.stored, length-sets l at s);
    }

pub stored_length : {l m s : List ℕ} {at e : ℕ} → Stored l at s m e → length m ≡ length l
stored_length {l} {m} {s} {at} p = ap length p.stored ∙ length-sets l at s

-- where there is room, the whole text is there
pub stored_whole : {l m t : List ℕ} {at e : ℕ} → Stored l at t m e → at + length t ≤ length l → e ≡ at + length t
stored_whole p h = omega (arith, p.ends)

pub stored_reply_within : (r : Reply) {l m : List ℕ} {at e : ℕ} → Stored l at (reply_line r) m e → (e ≤ at + 8) × (length m ≡ length l)
stored_reply_within r p = (omega (arith, p.ends, reply_short r), stored_length p)

-- ---- what stands before the end

sets_held : (l : List ℕ) (i : ℕ) (t : List ℕ) → i ≤ length l → take (max i (min (i + length t) (length l))) (sets l i t) ≡ take (length l) (take i l ++ t)
sets_held l i [] h =
    let e : max i (min (i + 0) (length l)) ≡ i = omega arith in
    rw (e, append-nil) (sym (take_all (length l) (take i l) (omega (arith, length-take i l))))
sets_held l i (x ∷ t) h =
    elim (either (leb (suc i) (length l))) [
      | inl a ↦
          let k = leb-true (suc i) (length l) a in
          let s : length (set l i x) ≡ length l = length-set l i x in
          let e : max i (min (i + suc (length t)) (length l)) ≡ max (suc i) (min (suc i + length t) (length (set l i x))) = omega (arith, s) in
          rw e (sets_held (set l i x) (suc i) t (omega (arith, s)) ∙ rw (s, take-suc-set l i x k, append_assoc))
      | inr a ↦
          let k = leb-false (suc i) (length l) a in
          let e : max i (min (i + suc (length t)) (length l)) ≡ length l = omega arith in
          let z : i ≡ length l = omega arith in
          rw (e, sets_out l i (x ∷ t) (omega arith), z, take_all (length l) l (omega arith)) (sym (take-append_seam l (x ∷ t)))
    ]

-- what is stored behind a text stands behind it, as far as there is room
pub stored_behind : {n e f : ℕ} {l m t : List ℕ} → length l ≡ n → e ≤ n → Stored l e t m f → take f m ≡ take n (take e l ++ t)
stored_behind {e = e} {l = l} {t = t} s h p = rw (p.ends, p.stored, ← s) (sets_held l e t (omega (arith, s)))

-- where there is room, the whole text stands there
pub stored_at : {l m t : List ℕ} {at e : ℕ} → Stored l at t m e → at + length t ≤ length l → take e m ≡ take at l ++ t
stored_at {l = l} {t = t} {at = at} p h =
    stored_behind refl (omega arith) p ∙ take_all (length l) (take at l ++ t) (omega (arith, length-append (take at l) t, length-take at l))

pub stored_printed : {n : ℕ} {a b : Text n} {t : List ℕ} → Stored a.bytes a.len t b.bytes b.len → Printed a t b
stored_printed {a = a} p = record { stored = stored_behind a.size a.within p }
