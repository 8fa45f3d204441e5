-- A Service's targets, as those of its Route, keep the rules.
use Rattle.std.proofs.Common.{◌≡◌, ℕ, Bool, true, false, cond, ◌||◌, not, List, [], ◌∷◌, ◌++◌, length, map, refl, sym, ap, ◌∙◌, subst}
use Rattle.std.specs.Prelude.{◌+◌, ◌==◌, nat_le, sum_by}
use Rattle.std.specs.List.{list_any}
use Rattle.std.proofs.lemmas.Bool.{or_right}
use Rattle.std.proofs.lemmas.List.{length-map, map-append}
use Rattle.std.proofs.lemmas.List.Sums.{sum_by-cons}
use Rattle.serve_names.specs.Labels.{is_label_of}
use Rattle.resource_types.specs.declared.names.ClientKind.TheVariants as client
use Rattle.resource_types.specs.declared.names.Name.{Name}
use Rattle.resource_types.specs.declared.specification.Target.{Target}
use Rattle.resource_codec.specs.Written.{HasNoUrls}
use Rattle.validation.specs.Defaults.{is_empty, default_target, service_targets}
use Rattle.validation.specs.Rules.{same, has_tag, percent_of, is_latest_as_named, is_absent_or_label, is_between, is_tag_before, target_lines, each_target_lines, traffic_lines}
use Rattle.control_rules.specs.NextService.{converted_target}
use Rattle.validation.proofs.Lines.{AreKept, kept_both, kept_left, kept_right}

-- the target on the Configuration of the name
abbrev pub on_configuration : Name → Target → Target
on_configuration n t = record { configuration = n.name; revision = t.revision; latest = t.latest; percent = t.percent; tag = t.tag; url = t.url }

abbrev head_or : Target → List Target → Target
head_or t [] = t
head_or t (u ∷ us) = u

abbrev tail_of : List Target → List Target
tail_of [] = []
tail_of (u ∷ us) = us

module _ (n : Name) where
  -- what holds of a target and of the same on the Configuration holds of the converted one
  pub converted_keeps : (P : Target → Type 0) (t : Target) → P (on_configuration n t) → P t → P (converted_target n t)
  converted_keeps P t on off = go (is_empty t.revision)
    where
      go : (b : Bool) → P (cond b (on_configuration n t) t)
      go true = on
      go false = off

  -- nothing but the name of the Configuration changes
  tag_stays : (t : Target) → (converted_target n t).tag ≡ t.tag
  tag_stays t = converted_keeps (λ u. u.tag ≡ t.tag) t refl refl

  percent_stays : (t : Target) → percent_of (converted_target n t) ≡ percent_of t
  percent_stays t = converted_keeps (λ u. percent_of u ≡ percent_of t) t refl refl

  any_stays : (tag : List ℕ) (ts : List Target) → list_any (has_tag tag) (map (converted_target n) ts) ≡ list_any (has_tag tag) ts
  any_stays tag [] = refl
  any_stays tag (t ∷ ts) =
      ap (λ b. b || list_any (has_tag tag) (map (converted_target n) ts)) (converted_keeps (λ u. has_tag tag u ≡ has_tag tag t) t refl refl)
      ∙ ap (λ b. has_tag tag t || b) (any_stays tag ts)

  pub sum_stays : (ts : List Target) → sum_by percent_of (map (converted_target n) ts) ≡ sum_by percent_of ts
  sum_stays [] = refl
  sum_stays (t ∷ ts) =
      sum_by-cons percent_of (converted_target n t) (map (converted_target n) ts)
      ∙ ap (λ p. p + sum_by percent_of (map (converted_target n) ts)) (percent_stays t)
      ∙ ap (λ s. percent_of t + s) (sum_stays ts)
      ∙ sym (sum_by-cons percent_of t ts)

  module _ (label : is_label_of n.name 42 ≡ true) (some : is_empty n.name ≡ false) where
    -- a converted target names one Revision or one Configuration
    names_one : (t : Target) → is_empty t.configuration ≡ true → same (is_empty (converted_target n t).configuration) (not (is_empty (converted_target n t).revision)) ≡ true
    names_one t none = go (is_empty t.revision) refl
      where
        go : (b : Bool) → is_empty t.revision ≡ b
            → same (is_empty (cond b (on_configuration n t) t).configuration) (not (is_empty (cond b (on_configuration n t) t).revision)) ≡ true
        go true e = rw (some, e) refl
        go false e = rw (none, e) refl

    target_kept : (earlier : List Target) (i j : ℕ) (t : Target) → AreKept (target_lines client.Service n.name earlier i t)
        → AreKept (target_lines client.Route n.name (map (converted_target n) earlier) j (converted_target n t))
    unfolding target_lines
    target_kept earlier i j t (naming, (configuration, (revision, (latest, (percent, (tag, (once, end))))))) = (
      names_one t naming,
      (
        converted_keeps (λ u. is_absent_or_label u.configuration 42 ≡ true) t (or_right _ _ label) configuration,
        (
          converted_keeps (λ u. is_absent_or_label u.revision 63 ≡ true) t revision revision,
          (
            converted_keeps (λ u. is_latest_as_named u ≡ true) t latest latest,
            (
              ap (λ p. nat_le p 100) (percent_stays t) ∙ percent,
              (
                converted_keeps (λ u. (is_empty u.tag || is_tag_before n.name u.tag) ≡ true) t tag tag,
                (
                  converted_keeps (λ u. (is_empty u.tag || not (list_any (has_tag u.tag) (map (converted_target n) earlier))) ≡ true) t
                      (ap (λ b. is_empty t.tag || not b) (any_stays t.tag earlier) ∙ once) (ap (λ b. is_empty t.tag || not b) (any_stays t.tag earlier) ∙ once),
                  tt,
                ),
              ),
            ),
          ),
        ),
      ),
    )

    each_kept : (earlier ts : List Target) → AreKept (each_target_lines client.Service n.name earlier ts)
        → AreKept (each_target_lines client.Route n.name (map (converted_target n) earlier) (map (converted_target n) ts))
    unfolding each_target_lines
    each_kept earlier [] h = tt
    each_kept earlier (t ∷ ts) h =
        kept_both (target_lines client.Route n.name (map (converted_target n) earlier) (length (map (converted_target n) earlier)) (converted_target n t)) _
        (target_kept earlier (length earlier) _ t (kept_left _ _ h))
        (subst (λ before. AreKept (each_target_lines client.Route n.name before (map (converted_target n) ts))) (map-append (converted_target n) earlier (t ∷ []))
        (each_kept (earlier ++ t ∷ []) ts (kept_right (target_lines client.Service n.name earlier (length earlier) t) _ h)))

    -- the rules of a Service's targets, as those of its Route
    pub traffic_kept : (ts : List Target) → AreKept (traffic_lines client.Service n.name ts) → AreKept (traffic_lines client.Route n.name (map (converted_target n) ts))
    unfolding traffic_lines
    traffic_kept ts (count, rest) = (
      ap (is_between 1 16) (length-map ts (converted_target n)) ∙ count,
      kept_both (each_target_lines client.Route n.name [] (map (converted_target n) ts)) _
          (each_kept [] ts (kept_left (each_target_lines client.Service n.name [] ts) _ rest))
          (ap (λ s. s == 100) (sum_stays ts) ∙ (kept_right (each_target_lines client.Service n.name [] ts) _ rest).0, tt),
    )

  -- ---- defaults and addresses

  pub urls_stay : (ts : List Target) → HasNoUrls ts → HasNoUrls (map (converted_target n) ts)
  urls_stay [] h = tt
  urls_stay (t ∷ ts) h = (converted_keeps (λ u. u.url ≡ []) t h.0 h.0, urls_stay ts h.1)

  full_stays : (t : Target) → default_target t ≡ t → default_target (converted_target n t) ≡ converted_target n t
  full_stays t h = converted_keeps (λ u. default_target u ≡ u) t (ap (on_configuration n) h) h

  -- targets with their defaults, converted, have them
  pub targets_full : (ts : List Target) → map default_target ts ≡ ts → map default_target (map (converted_target n) ts) ≡ map (converted_target n) ts
  targets_full [] h = refl
  targets_full (t ∷ ts) h =
      ap (λ u. u ∷ map default_target (map (converted_target n) ts)) (full_stays t (ap (head_or t) h))
      ∙ ap (λ us. converted_target n t ∷ us) (targets_full ts (ap tail_of h))

-- the targets of a Service with its defaults have theirs
pub service_full : (ts : List Target) → service_targets ts ≡ ts → map default_target ts ≡ ts
service_full [] h = refl
service_full (t ∷ ts) h = h
