use Rattle.std.proofs.Common.{◌≡◌, ◌∙◌, ◌-◌, ◌^◌, ◌++◌, ap, false, [], OnOk, string_bytes}
use Rattle.std.specs.Fmt.{padded_integral, format_spec, decimal}
use Rattle.std.proofs.lemmas.Result.{on_ok_weaker}
use Rattle.serve_names.proofs.PaddingLemmas.{zero_padded}
use Rattle.serve_names.proofs.padding.push_five_digits.Goals as goal

pub returns : goal.returns
returns c =
    let old = string_bytes c.args.text.now in
    let h : OnOk c.write.result (string_bytes c.write.new.self ≡ old ++ padded_integral (format_spec 32 0 4 5 (2 ^ 64 - 1)) false [] (decimal c.args.number)) =
    rw c.laid_out.ensures at c.write.ensures.bytes in
    on_ok_weaker c.write.result (λ e. e ∙ ap (λ t. old ++ t) (zero_padded 5 (decimal c.args.number))) h
