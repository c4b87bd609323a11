use Rattle.std.proofs.Common.{◌≡◌, true, List, ℕ, ◌%◌, ◌∙◌, ap, length, replicate, arith, rules}
use Rattle.std.proofs.Math.Nat.{mod-eq_of_lt}
use Rattle.levels.specs.declared.Order.{Order}
use Rattle.levels.specs.Order.{order_passes}
use Rattle.levels.specs.OrderLaws.{IsOrder, is_order, both_in}
use Rattle.rows.specs.Size.{WordsLent}
use Rattle.records.specs.Records.{BytesLent, set_record}
use Rattle.model.specs.State.{memory}
use Rattle.model.specs.Monitor.{started}
use Rattle.calls.proofs.set_up.Goals as goal

-- a passed order's top fits a byte
top_fits : (o : Order) → order_passes o ≡ true → o.top % 0x100 ≡ o.top
top_fits o ok =
    let order : IsOrder o = is_order o ok in
    mod-eq_of_lt (omega (arith, (both_in o 0 o.top (order.upper 0 order.some)).1, order.few))

-- zeros as long as what was lent, with the core's record, are the memory of a start
is_started : (o : Order) (bs ws : List ℕ) → BytesLent bs → WordsLent ws → order_passes o ≡ true
    → memory (set_record (replicate (length bs) 0) 0 1 (o.top % 0x100) (o.top % 0x100) 0 0 0 0) (replicate (length ws) 0) ≡ started o
unfolding started
is_started o bs ws b w ok =
    let t = top_fits o ok in
    λ i. memory (set_record (replicate (b i) 0) 0 1 (t i) (t i) 0 0 0 0) (replicate (w i) 0)

pub returns : goal.returns
returns c =
    let t = c.args.order.now.top % 0x100 in
    let bytes = c.set_record.ensures ∙ ap (λ (l : List ℕ). set_record l 0 1 t t 0 0 0 0) c.clear_all.ensures in
    let words = c.clear_all-2.ensures in
    let b : BytesLent c.args.bytes.now = search rules in
    let w : WordsLent c.args.words.now = search rules in
    (λ i. memory (bytes i) (words i)) ∙ is_started c.args.order.now c.args.bytes.now c.args.words.now b w c.requires
