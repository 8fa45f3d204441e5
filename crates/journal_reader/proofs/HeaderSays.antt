-- What a header says is what it was written for.
use Rattle.std.proofs.Common.{◌≡◌, ℕ, Option, Some, None, codes, refl, ap}
use Rattle.json_tree.specs.declared.value.Json.TheViews.{out-Json}
use Rattle.resource_codec.proofs.Again.{out_nat}
use Rattle.resource_codec.proofs.Texts.{out_str}
use Rattle.control_rules.specs.declared.settings.Settings.{Settings}
use Rattle.journal_text.specs.Lines.{count_json, header_of}
use Rattle.journal_reader.specs.Headers.{count, gc_in, header_in}

count_again : (n : Option ℕ) → count (out-Json (count_json n)) ≡ Some n
count_again None = ap count (out_str (codes "disabled"))
count_again (Some n) = ap count (out_nat n)

gc_again : (settings : Settings) (now : ℕ) → gc_in (header_of settings now) ≡ Some settings.gc
unfolding gc_in header_of
gc_again settings now =
    rw (count_again settings.gc.create, count_again settings.gc.active, out_nat settings.gc.least, count_again settings.gc.most) refl

pub header_again : (settings : Settings) (now : ℕ) → header_in (header_of settings now) ≡ Some (record { settings = settings; moment = now })
unfolding header_in header_of
header_again settings now = rw (out_str settings.domain, gc_again settings now, out_nat now) refl
