-- What the text of a value is read as: the value, and nothing else.
use Rattle.std.proofs.Common.{◌≡◌, ℕ, ◌≤◌, true, List, Some, None, Result, Ok, Err, subst, arith}
use Rattle.std.specs.Prelude.{IsUtf8}
use Rattle.serde_json.specs.Written.{compact_text}
use Rattle.json_tree.specs.Tree.{data_of, depth_of}
use Rattle.json_tree.specs.declared.value.Json.{Json}
use Rattle.json_tree.proofs.Whole.{has_float-data_of}
use Rattle.resource_codec.specs.Reading.{Member}
use Rattle.resource_codec.specs.Written.{object_of}
use Rattle.resource_codec.specs.Sound.{Fits}
use Rattle.manifest_intake.specs.Bodies.{IsBody}
use Rattle.manifest_intake.proofs.Bodies.{one_body}
use Rattle.journal_text.specs.Reads.{are_short, line_text, HasShortNumbers}
use Rattle.journal_reader.specs.declared.error.ReadError.{ReadError}
use Rattle.journal_reader.specs.declared.error.ReadError.TheVariants as error
use Rattle.journal_reader.specs.Answers.{Reads, IsJsonOf}
use Rattle.journal_reader.proofs.Compact.{read_compact}

-- the compact text of a value is a text of it
pub body_of : (j : Json) → Fits 32 j → are_short (data_of j) ≡ true → IsUtf8 (compact_text (data_of j)) → IsBody (compact_text (data_of j)) (Some j)
body_of j fits short utf8 =
    let shallow : depth_of j ≤ 127 = (let d = fits.deep in omega arith) in
    ((utf8, read_compact (data_of j) fits.well short (has_float-data_of j) shallow), fits.well, fits.deep)

-- so is a line
pub body_of_line : (bytes : List ℕ) (ms : List Member) → Fits 32 (object_of ms) → HasShortNumbers ms → IsUtf8 (line_text ms) → line_text ms ≡ bytes → IsBody bytes (Some (object_of ms))
body_of_line bytes ms fits short utf8 same = subst (λ bs. IsBody bs (Some (object_of ms))) same (body_of (object_of ms) fits short utf8)

some_same : {A : Type 0} (x y : A) → Some x ≡ Some y → x ≡ y
some_same x y e = cc

-- where the bytes are a text of a value, this is read
pub json_is : (bytes : List ℕ) (r : Result Json ReadError) (j : Json) → IsBody bytes (Some j) → IsJsonOf bytes r → Reads r j
json_is bytes (Ok k) j body is = some_same k j (one_body bytes (Some k) (Some j) is body)
json_is bytes (Err error.Refused) j body is = (let same : None ≡ Some j = one_body bytes None (Some j) is body in absurd cc)
json_is bytes (Err error.Memory) j body is = tt
