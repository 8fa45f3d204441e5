use Rattle.std.proofs.Common.{◌≡◌, ◌∙◌, ◌-◌, ◌^◌, ◌++◌, ap, false, [], OnOk, string_bytes, Option, Some, List, ℕ, subst, option_map}
use Rattle.std.specs.Fmt.{AppendsText, padded_integral, format_spec, digits, digits_output}
use Rattle.std.proofs.lemmas.Result.{on_ok_weaker}
use Rattle.serve_names.proofs.PaddingLemmas.{zero_padded}
use Rattle.serve_names.proofs.padding.push_twelve_hex_digits.Goals as goal

pub returns : goal.returns
returns c =
    let old = string_bytes c.args.text.now in
    let new = string_bytes c.write.new.self in
    let word : digits_output c.in_radix.result ≡ Some (digits 16 false c.args.number) = c.in_radix.ensures in
    let shown : OnOk c.write.result (AppendsText old new (option_map (padded_integral (format_spec 32 0 4 12 (2 ^ 64 - 1)) false []) (digits_output c.in_radix.result))) =
    rw c.laid_out.ensures at c.write.ensures.bytes in
    let h = subst (λ (o : Option (List ℕ)). OnOk c.write.result (AppendsText old new (option_map (padded_integral (format_spec 32 0 4 12 (2 ^ 64 - 1)) false []) o))) word shown in
    on_ok_weaker c.write.result (λ e. e ∙ ap (λ t. old ++ t) (zero_padded 12 (digits 16 false c.args.number))) h
