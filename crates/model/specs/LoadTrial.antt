-- Document 02's layout, with a drawer of a task's added: a trial of the load, at the size in use.
-- Assumes nothing.
use Rattle.std.specs.Prelude.{◌≡◌, [], ◌∷◌}
use Rattle.layout.specs.Layout.{none, object, root, task, Layout, written}
use Rattle.model.specs.Verdicts.{granted}
use Rattle.model.specs.Load.{layout_calls, load}
use Rattle.model.specs.declared.Call.TheVariants.{Write, Execute, Create, CreateRoot}
use Rattle.model.specs.Trials.{Q, fresh}

-- (object 10 driver 0 level 3
-- (object 11 driver 0 level 2))
-- (task 1 image 11 level 2 reads 0)
-- (object 12 driver 0 level 2
-- (object 13 driver 1 level 2))
unfoldable pub example : Layout
example =
    root (record { number = 10; driver = 0; level = 3 }) (object (record { number = 11; driver = 0; level = 2 }) none none)
    ∷ task (record { number = 1; image = 11; level = 2; reads = 0 })
    ∷ root (record { number = 12; driver = 0; level = 2 }) (object (record { number = 13; driver = 1; level = 2 }) none none)
    ∷ []

-- its calls in file order, and that its text is granted, each nested create holding its accesses
abbrev pub LoadTrial : Type 0
LoadTrial =
    (layout_calls example
    ≡ CreateRoot 0 0 10 3
    ∷ Write 0 0 10
    ∷ Write 0 0 10
    ∷ Create 0 0 11 10 2
    ∷ Execute 0 11 1 2 0
    ∷ CreateRoot 0 0 12 2
    ∷ Write 0 0 12
    ∷ Write 1 0 12
    ∷ Create 0 1 13 12 2
    ∷ [])
    × ((load Q fresh (written example)).verdict ≡ granted)
