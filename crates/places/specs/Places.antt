-- The walk from container to container, by the container bytes alone.
-- Assumes nothing.
use Rattle.std.specs.Prelude.{Bool, false, not, ◌&&◌, ◌||◌, List, ℕ, zero, suc, eqb}
use Rattle.rows.specs.Size.{present}
use Rattle.records.specs.Records.{container, root, container_byte}
use Rattle.model.specs.Inside.{most_steps}

-- at most n steps from x come to y; the sign of a root ends them
unfoldable pub bytes_walk : ℕ → List ℕ → ℕ → ℕ → Bool
bytes_walk zero bs x y = false
bytes_walk (suc n) bs x y =
    eqb (container bs x) y || (not (eqb (container bs x) (container_byte root present)) && bytes_walk n bs (container bs x) y)

-- as many steps as decide
unfoldable pub bytes_inside : List ℕ → ℕ → ℕ → Bool
bytes_inside bs x y = bytes_walk (most_steps present) bs x y
