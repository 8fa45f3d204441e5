-- Bytes that there is a reason to refuse are the text of no value.
use Rattle.std.proofs.Common.{◌≡◌, ◌≢◌, ℕ, true, false, List, Option, Some, Err, IsErrOf, refl, sym, ap, ◌∙◌, arith}
use Rattle.serde_json.specs.Data.{Data, depth}
use Rattle.serde_json.specs.Read.{read}
use Rattle.serde_json.specs.Written.{has_float}
use Rattle.json_tree.specs.Answers.{IsRefusedFor}
use Rattle.json_tree.specs.Tree.{data_of}
use Rattle.json_tree.specs.declared.value.Json.{Json}
use Rattle.json_tree.specs.declared.read.JsonError.{JsonError}
use Rattle.json_tree.specs.declared.read.JsonError.TheVariants.{Malformed, FloatNumber, TooDeep, Memory}
use Rattle.json_tree.proofs.Whole.{has_float-data_of}
use Rattle.gateway_pick.specs.declared.error.FollowError.{FollowError}
use Rattle.gateway_pick.specs.declared.error.FollowError.TheVariants as follow
use Rattle.gateway_pick.specs.Gateway.{IsJson}

one_reading : (o : Option Data) (d e : Data) → o ≡ Some d → o ≡ Some e → d ≡ e
one_reading o d e f g = cc

pub no_json : (bytes : List ℕ) (error : JsonError) (json : Json) → error ≢ Memory → IsRefusedFor bytes error → IsJson bytes json → ⊥
no_json bytes Malformed json other why is = why (data_of json) is.reading
no_json bytes FloatNumber json other why is =
    let same : why.0 ≡ data_of json = one_reading (read bytes) why.0 (data_of json) why.1.1 is.reading.1 in
    let float : has_float (data_of json) ≡ true = ap has_float (sym same) ∙ why.2 in
    let whole : has_float (data_of json) ≡ false = has_float-data_of json in
    cc
no_json bytes TooDeep json other why is =
    let same : why.0 ≡ data_of json = one_reading (read bytes) why.0 (data_of json) why.1.1 is.reading.1 in
    omega (arith, ap depth same, why.3, is.deep)
no_json bytes Memory json other why is = other refl

-- so a body that was refused for such a reason is the text of none
pub refused_json : (bytes : List ℕ) (error : JsonError) (r : FollowError) → (r ≡ follow.Refused → error ≢ Memory) → IsRefusedFor bytes error → IsErrOf {T = Json} (Err r) follow.Refused
    → (json : Json) → IsJson bytes json → ⊥
refused_json bytes error r kept why e json is = no_json bytes error json (kept inner) why is
  where
    inner : r ≡ follow.Refused
    inner = cc
