-- The bodies of replies to control calls.
use Rattle.std.specs.Prelude.{ℕ, Bool, true, false, List, ◌++◌, codes, decimal}
use Rattle.http_session.specs.declared.message.Reply.{Reply}
use Rattle.http_session.specs.declared.message.Allow.TheVariants as allow
use Rattle.resource_types.specs.declared.names.Kind.TheVariants as kind
use Rattle.resource_types.specs.Lookups.{State}
use Rattle.control_rules.specs.declared.slots.StepOutcome.{StepOutcome}
use Rattle.control_rules.specs.declared.slots.StepOutcome.TheVariants as outcome
use Rattle.control_calls.specs.declared.summary.Summary.{Summary}

-- a reply of success with this body
abbrev pub success : List ℕ → Reply
success body = record { code = 200; allow = allow.None; body = body }

-- what came of a step
unfoldable pub outcome_text : StepOutcome → List ℕ
outcome_text (outcome.Looked seen) = codes "{\"outcome\":\"Looked\",\"seen\":" ++ decimal seen ++ codes "}"
outcome_text outcome.Planned = codes "{\"outcome\":\"Planned\"}"
outcome_text outcome.Nothing = codes "{\"outcome\":\"Nothing\"}"
outcome_text (outcome.Wrote version) = codes "{\"outcome\":\"Wrote\",\"version\":" ++ decimal version ++ codes "}"
outcome_text (outcome.Stale newer) = codes "{\"newer\":" ++ decimal newer ++ codes ",\"outcome\":\"Stale\"}"
outcome_text outcome.Unknown = codes "{\"outcome\":\"Unknown\"}"
outcome_text outcome.Empty = codes "{\"outcome\":\"Empty\"}"

-- whether a report made an entry, and the version of the Health
abbrev pub truth_text : Bool → List ℕ
truth_text true = codes "true"
truth_text false = codes "false"

unfoldable pub report_text : Bool → ℕ → List ℕ
report_text changed version = codes "{\"changed\":" ++ truth_text changed ++ codes ",\"resourceVersion\":\"" ++ decimal version ++ codes "\"}"

-- where the clock stands
unfoldable pub clock_text : ℕ → List ℕ
clock_text now = codes "{\"now\":" ++ decimal now ++ codes "}"

-- the length of the journal after a settle, and the number of its turns
unfoldable pub settle_text : ℕ → ℕ → List ℕ
settle_text journal turns = codes "{\"journal\":" ++ decimal journal ++ codes ",\"turns\":" ++ decimal turns ++ codes "}"

-- the number of objects of each kind, the length of the journal, and the moment
unfoldable pub summary_text : Summary → List ℕ
summary_text s =
    codes "{\"configurations\":" ++ decimal s.configurations
    ++ codes ",\"health\":" ++ decimal s.health
    ++ codes ",\"journal\":" ++ decimal s.journal
    ++ codes ",\"now\":" ++ decimal s.now
    ++ codes ",\"revisions\":" ++ decimal s.revisions
    ++ codes ",\"routes\":" ++ decimal s.routes
    ++ codes ",\"services\":" ++ decimal s.services
    ++ codes ",\"tables\":" ++ decimal s.tables
    ++ codes "}"
