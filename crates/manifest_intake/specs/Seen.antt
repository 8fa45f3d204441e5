-- A purpose as the code has it, with its texts behind references.
use Rattle.manifest_intake.specs.Intake.{Purpose as Aim, create, replace, checking}
use Rattle.manifest_intake.specs.declared.matching.Purpose.{Purpose}
use Rattle.manifest_intake.specs.declared.matching.Purpose.TheVariants.{Create, Replace, Check}

abbrev pub purpose_seen : Purpose → Aim
purpose_seen (Create space) = create space.now
purpose_seen (Replace space name) = replace space.now name.now
purpose_seen Check = checking
