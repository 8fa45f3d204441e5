-- The fields of a published target.
use Rattle.std.proofs.Common.{List, [], ◌∷◌, codes}
use Rattle.resource_types.specs.declared.specification.Target.{Target}
use Rattle.resource_codec.specs.Written.{Field, text_field, truth_field, number_field}

-- those of a target, and its address behind them
abbrev pub published_fields : Target → List Field
published_fields t = (codes "configurationName", text_field t.configuration) ∷
    (codes "latestRevision", truth_field t.latest) ∷
    (codes "percent", number_field t.percent) ∷
    (codes "revisionName", text_field t.revision) ∷
    (codes "tag", text_field t.tag) ∷
    (codes "url", text_field t.url) ∷ []
