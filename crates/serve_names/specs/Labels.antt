-- Labels, and the domains that are made of them.
use Rattle.std.specs.Prelude.{◌==◌, ◌&&◌, ◌||◌, ◌-◌, ℕ, Bool, not, List, length, nat_le, slice_index}
use Rattle.std.specs.List.{list_all, slice_split}
use Rattle.serve_names.specs.Counts.{is_digit}

abbrev pub is_lower : ℕ → Bool
is_lower b = nat_le 97 b && nat_le b 122

-- a lower-case letter, a digit or `-`
abbrev pub is_label_byte : ℕ → Bool
is_label_byte b = is_lower b || (is_digit b || b == 45)

-- 1 to `most` such bytes, of which the first is a letter and the last is no `-`
unfoldable pub is_label_of : List ℕ → ℕ → Bool
is_label_of bytes most = nat_le 1 (length bytes) && (nat_le (length bytes) most
    && (list_all is_label_byte bytes && (is_lower (slice_index bytes 0) && not (slice_index bytes (length bytes - 1) == 45))))

-- each part between the dots is a label of at most 63 bytes
abbrev pub has_labels : List ℕ → Bool
has_labels bytes = list_all (λ part. is_label_of part 63) (slice_split (λ b. b == 46) bytes)

-- labels joined by dots, at most 100 bytes in all
unfoldable pub is_domain_of : List ℕ → Bool
is_domain_of bytes = nat_le (length bytes) 100 && has_labels bytes
