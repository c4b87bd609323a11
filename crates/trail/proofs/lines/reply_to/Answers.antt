use Rattle.std.proofs.Common.{◌≡◌, refl, false}
use Rattle.model.specs.declared.Call.{Call}
use Rattle.model.specs.declared.Call.TheVariants.{Start, Read, Write, Execute, Create, CreateRoot, Move, Delete, CallTask, Invoke, Pass, Post, Find, Mark, Step, Spread}
use Rattle.trail.specs.Lines.{is_spread, reply_to}
use Rattle.trail.proofs.lines.reply_to.Goals as goal

no_spread : (c : Call) → (c ≡ Spread → ⊥) → is_spread c ≡ false
unfolding is_spread
no_spread Start h = refl
no_spread (Read e d x) h = refl
no_spread (Write e d x) h = refl
no_spread (Execute c i n l r) h = refl
no_spread (Create c d n k l) h = refl
no_spread (CreateRoot c d n l) h = refl
no_spread (Move e d x f t) h = refl
no_spread (Delete e d x k) h = refl
no_spread (CallTask a b) h = refl
no_spread (Invoke a b) h = refl
no_spread (Pass z x y) h = refl
no_spread (Post x z y) h = refl
no_spread (Find x z y) h = refl
no_spread (Mark e) h = refl
no_spread (Step x) h = refl
no_spread Spread h = absurd (h refl)

pub returns-in-Spread : goal.returns-in-Spread
unfolding reply_to is_spread
returns-in-Spread c = rw c.in-Spread.is

pub returns-in_default : goal.returns-in_default
unfolding reply_to
returns-in_default c = rw (no_spread c.args.call c.in_default.not-Spread)
