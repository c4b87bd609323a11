-- What going through numbers makes of it: whether some number passes, beside what is known.
-- Assumes nothing.
use Rattle.std.specs.Prelude.{◌≡◌, Bool, false, ◌||◌, Some, ℕ, ◌<◌, eqb}
use Rattle.std.proofs.Common.{sym, ap, ◌∙◌, arith}
use Rattle.bits.specs.AllLaws.{eqb_sym, or_false, any_one, any_false}
use Rattle.rows.specs.Size.{numbers}
use Rattle.sets.specs.WalkLaws.{some_of, some_ext, some_or}
use Rattle.sets.specs.Numbers.{Takes}

pub some_taken : (q r : ℕ → Bool) (x : ℕ) → Takes q (Some x) r → (p : ℕ → Bool) (a : Bool) → ((a || p x) || some_of numbers p r) ≡ (a || some_of numbers p q)
some_taken q r x h p a =
    let within : x < numbers = omega (arith, h.0) in
    ap (λ (b : Bool). (a || b) || some_of numbers p r) (sym (any_one numbers p x within))
    ∙ some_or numbers p a (λ y. eqb x y) r ∙ ap (λ (b : Bool). a || b) (some_ext numbers p (λ y. eqb x y || r y) q (λ y l. rw (eqb_sym x y) (sym (h.1 y))))

pub some_end : (q : ℕ → Bool) → ((y : ℕ) → q y ≡ false) → (p : ℕ → Bool) (a : Bool) → (a || some_of numbers p q) ≡ a
some_end q e p a = ap (λ (b : Bool). a || b) (some_ext numbers p q (λ y. false) (λ y l. e y) ∙ any_false numbers) ∙ or_false a
