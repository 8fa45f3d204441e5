use Rattle.std.proofs.Common.{◌++◌, ◌∷◌, [], map, refl, ap, ◌∙◌}
use Rattle.std.proofs.lemmas.Result.{on_ok_weaker}
use Rattle.json.specs.Token.{begin_object, end_object}
use Rattle.resource_codec.specs.Written.{text_member}
use Rattle.object_writer.specs.Tokens.{with_members}
use Rattle.object_writer.proofs.Left.{texts_absent, texts_present, unless_empty}
use Rattle.object_writer.proofs.text.JsonText.texts_field.Goals as goal

pub returns-then-is_empty : goal.returns-then-is_empty
returns-then-is_empty c = texts_absent c.args.name.now c.args.texts.now c.args.self.now (c.if-is_empty.ensures.0 refl)

pub returns : goal.returns
returns c =
    let opened = c.in_ok-open_object.ensures ∙ ap (λ ts. ts ++ begin_object ∷ []) c.in_ok-name.ensures in
    on_ok_weaker c.close_object.result
    (λ e. e ∙ ap (λ ts. ts ++ end_object ∷ []) (c.in_ok-texts.ensures
    ∙ ap (λ es. with_members (map text_member es) c.open_object.new.self) c.entries.ensures
    ∙ ap (with_members (map text_member c.args.texts.now.entries)) opened)
    ∙ texts_present c.args.name.now c.args.texts.now c.args.self.now (unless_empty c.if-is_empty.ensures.1))
    c.close_object.ensures
