-- A body is one thing: one value, or no readable JSON.
use Rattle.std.proofs.Common.{◌≡◌, ◌≢◌, ℕ, true, false, List, Option, Some, None, refl, sym, ap, ◌∙◌, arith}
use Rattle.serde_json.specs.Data.{Data, depth}
use Rattle.serde_json.specs.Read.{read}
use Rattle.serde_json.specs.Written.{has_float}
use Rattle.json_tree.specs.Answers.{IsRefusedFor}
use Rattle.json_tree.specs.Tree.{data_of}
use Rattle.json_tree.specs.declared.value.Json.{Json}
use Rattle.json_tree.specs.declared.read.JsonError.{JsonError}
use Rattle.json_tree.specs.declared.read.JsonError.TheVariants.{Malformed, FloatNumber, TooDeep, Memory}
use Rattle.json_tree.proofs.RoundTrip.{same_read}
use Rattle.json_tree.proofs.Whole.{has_float-data_of}
use Rattle.manifest_intake.specs.Bodies.{IsBody}

-- ---- a reading leaves no reason to refuse it

one_reading : (o : Option Data) (d e : Data) → o ≡ Some d → o ≡ Some e → d ≡ e
one_reading o d e f g = cc

no_reason : (bytes : List ℕ) (error : JsonError) (j : Json) → error ≢ Memory → IsRefusedFor bytes error → IsBody bytes (Some j) → ⊥
no_reason bytes Malformed j other why body = why (data_of j) body.0
no_reason bytes FloatNumber j other why body =
    let same : why.0 ≡ data_of j = one_reading (read bytes) why.0 (data_of j) why.1.1 body.0.1 in
    let float : has_float (data_of j) ≡ true = ap has_float (sym same) ∙ why.2 in
    let whole : has_float (data_of j) ≡ false = has_float-data_of j in
    cc
no_reason bytes TooDeep j other why body =
    let same : why.0 ≡ data_of j = one_reading (read bytes) why.0 (data_of j) why.1.1 body.0.1 in
    omega (arith, ap depth same, why.3, body.2)
no_reason bytes Memory j other why body = other refl

pub one_body : (bytes : List ℕ) (x y : Option Json) → IsBody bytes x → IsBody bytes y → x ≡ y
one_body bytes None None h k = refl
one_body bytes None (Some b) h k = absurd (no_reason bytes h.0 b h.1 h.2 k)
one_body bytes (Some a) None h k = absurd (no_reason bytes k.0 a k.1 k.2 h)
one_body bytes (Some a) (Some b) h k = ap Some (same_read bytes a b h.0.1 k.0.1)
