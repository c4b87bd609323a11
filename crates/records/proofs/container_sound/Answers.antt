use Rattle.std.proofs.Common.{sym, ◌∙◌, ne_eqb, rules}
use Rattle.rows.specs.Size.{present}
use Rattle.records.specs.Records.{is_object}
use Rattle.records.specs.RecordLaws.{field_past}
use Rattle.records.specs.WordLaws.{container_fits}
use Rattle.records.proofs.container_sound.Goals as goal
use Rattle.records.proofs.container_sound.Goals.{then-container-lt-RECORDS, else-container-lt-RECORDS}

pub returns-else-kind_at-eq-OBJECT : goal.returns-else-kind_at-eq-OBJECT
unfolding container_fits is_object
returns-else-kind_at-eq-OBJECT c =
    let no_root = ne_eqb _ _ c.if-container.false in
    let f = c.if-kind_at-eq-OBJECT.false in
    f
    ∙ elim c.if-container-lt-RECORDS.branch [
      | then-container-lt-RECORDS w ↦ simp (no_root, sym w.kind_at.ensures, sym w.value-is ∙ f)
      | else-container-lt-RECORDS w ↦ simp (no_root, field_past present c.args.bytes.now _ 0 (search rules) w.if-container-lt-RECORDS.false)
    ]
