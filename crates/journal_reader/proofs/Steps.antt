-- What is answered, from what a call on the way answered.
use Rattle.std.proofs.Common.{◌≡◌, List, Option, Some, None, Result, Ok, Err, IfOk, ap, ◌∙◌}
use Rattle.json_tree.specs.declared.value.Json.{Json}
use Rattle.json_tree.specs.declared.value.Json.TheViews.{out-Json}
use Rattle.resource_codec.specs.Reading.{Member}
use Rattle.resource_codec.specs.Written.{object_of}
use Rattle.resource_codec.proofs.Again.{out_obj}
use Rattle.journal_reader.specs.declared.error.ReadError.{ReadError}
use Rattle.journal_reader.specs.declared.error.ReadError.TheVariants as error
use Rattle.journal_reader.specs.Answers.{Gives, Reads}
use Rattle.journal_reader.specs.Members.{object}

pub any_ok : {X E : Type 0} (r : Result X E) (P : Type 0) → P → IfOk r (λ x. P)
any_ok (Ok x) P p = p
any_ok (Err e) P p = tt

-- an error stands for whatever was due
pub error_reads : {X Y : Type 0} (e : ReadError) (x : X) (y : Y) → Reads (Err e) x → Reads (Err e) y
error_reads error.Refused x y h = absurd h
error_reads error.Memory x y h = tt

some_same : {X : Type 0} (o : Option X) (x y : X) → o ≡ Some x → o ≡ Some y → x ≡ y
some_same o x y e f = cc

-- what is given is what is due
pub gives_reads : {X : Type 0} (r : Result X ReadError) (o : Option X) (x : X) → Gives (λ y. y) r o → o ≡ Some x → Reads r x
gives_reads (Ok y) o x g e = some_same o y x g e
gives_reads (Err error.Refused) o x g e = (let none : o ≡ None = g in absurd cc)
gives_reads (Err error.Memory) o x g e = tt

-- an object that was read has its members
pub same_members : (json : Json) (ms found : List Member) → json ≡ object_of ms → object (out-Json json) ≡ Some found → found ≡ ms
same_members json ms found same is =
    some_same (object (out-Json json)) found ms is (ap (λ j. object (out-Json j)) same ∙ ap object (out_obj (record { entries = ms })))

-- so an object is no other value
pub object_reads : (json : Json) (ms : List Member) (e : ReadError) → json ≡ object_of ms → Gives (λ (x : List Member). x) (Err e) (object (out-Json json)) → Reads (Err e) ms
object_reads json ms e same g = gives_reads (Err e) (object (out-Json json)) ms g (ap (λ j. object (out-Json j)) same ∙ ap object (out_obj (record { entries = ms })))
