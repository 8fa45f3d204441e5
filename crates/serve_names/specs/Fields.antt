-- The fields of a moment's text.
use Rattle.std.specs.Prelude.{◌+◌, ◌-◌, ◌*◌, ◌<◌, ℕ, List, [], ◌∷◌, ◌++◌, slice_index}
use Rattle.jiff_fmt.specs.Text.{pad2, pad4}
use Rattle.serve_names.specs.declared.fields.Fields.{Fields}

-- what two digits write, and some number for other bytes
abbrev pub pair_of : ℕ → ℕ → ℕ
pair_of high low = (high - 48) * 10 + (low - 48)

abbrev pub fields_of : List ℕ → Fields
fields_of b = record {
  year = pair_of (slice_index b 0) (slice_index b 1) * 100 + pair_of (slice_index b 2) (slice_index b 3);
  month = pair_of (slice_index b 5) (slice_index b 6);
  day = pair_of (slice_index b 8) (slice_index b 9);
  hour = pair_of (slice_index b 11) (slice_index b 12);
  minute = pair_of (slice_index b 14) (slice_index b 15);
  second = pair_of (slice_index b 17) (slice_index b 18);
}

abbrev pub AreSmall : Fields → Type 0
AreSmall f = (f.year < 10000) × (f.month < 100) × (f.day < 100) × (f.hour < 24) × (f.minute < 60) × (f.second < 60)

abbrev pub fields_text : Fields → List ℕ
fields_text f = pad4 f.year ++ 45 ∷ [] ++ pad2 f.month ++ 45 ∷ [] ++ pad2 f.day ++ 84 ∷ [] ++ pad2 f.hour ++ 58 ∷ [] ++ pad2 f.minute ++ 58 ∷ [] ++ pad2 f.second ++ 90 ∷ []
