-- Who asks, by the bytes alone: a number that names a task is one of the numbers.
-- Assumes nothing.
use Rattle.std.specs.Prelude.{◌≡◌, true, List, [], ℕ, ◌<◌}
use Rattle.rows.specs.Size.{numbers}
use Rattle.records.specs.Records.{BytesLent, is_task}
use Rattle.model.proofs.StateLaws.{task_used, used_below}
use Rattle.model.specs.State.{memory, task}

module _ (bs : List ℕ) (x : ℕ) where
  pub task_in : BytesLent bs → is_task bs x ≡ true → x < numbers
  unfolding task
  task_in long t = used_below (memory bs []) x long (task_used (memory bs []) x t)
