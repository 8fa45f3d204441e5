-- Each entry of a form has a line, which says what was done.
use Rattle.std.proofs.Common.{◌≡◌, Option, Some, None, refl, sym, ap, ◌∙◌, subst}
use Rattle.resource_types.specs.declared.names.Actor.{Actor}
use Rattle.resource_types.specs.declared.names.Actor.TheVariants.{Client, Reporter, Controller}
use Rattle.resource_types.specs.declared.objects.Body.{Body}
use Rattle.resource_types.specs.declared.objects.Body.TheVariants.{Service, Configuration, Revision, Route, Health, Table}
use Rattle.resource_types.specs.declared.objects.Object.{Object}
use Rattle.resource_codec.specs.Written.{kind_of}
use Rattle.control_rules.specs.Slots.{ObjectEntry}
use Rattle.journal_text.specs.Lines.{unversioned, put_text, put_line, client_line, reporter_line, body_line, controller_line, line_by}
use Rattle.journal_text.specs.Reads.{IsLegible}
use Rattle.journal_reader.specs.declared.deeds.Deed.TheVariants.{Put, Remove, Report, Write}
use Rattle.journal_reader.specs.declared.deeds.Line.{Line}
use Rattle.journal_reader.specs.Lines.{members_of, IsHealth, IsHealthOf, HasForm, IsLineOf}
use Rattle.journal_reader.proofs.Says.{IsAskedDeed}
use Rattle.journal_reader.proofs.Asked.{asked}

-- what the line of an entry says
pub record IsLineFor (e : ObjectEntry) (a : Actor) : Type 0 where
  pub line : Line
  pub members : members_of line ≡ line_by e a
  pub asks : IsAskedDeed line.deed
  pub tells : IsLineOf e line

some_same : {A : Type 0} (x y : A) (o : Option A) → o ≡ Some x → o ≡ Some y → x ≡ y
some_same x y o p q = cc

-- no Health but the one that is put
no_other : (e : ObjectEntry) (o : Object) (b : Body) → e.object ≡ Some o → o.body ≡ b → ((p : Object) × (e.object ≡ Some p) × IsHealth p.body) → IsHealth b
no_other e o b puts is h = subst IsHealth (ap (λ (x : Object). x.body) (some_same h.0 o e.object h.1 puts) ∙ is) h.2

module _ (e : ObjectEntry) (legible : IsLegible e) (form : HasForm e) where
  client_for : e.actor ≡ Client → (o : Option Object) → e.object ≡ o → IsLineFor e Client
  unfolding put_line put_text
  client_for by None is = record { line = record { moment = e.moment; deed = Remove e.key }; members = sym (ap (client_line e.moment e.key) is); asks = tt; tells = (refl, (by, is, refl)) }
  client_for by (Some o) is = record {
    line = record { moment = e.moment; deed = Put (kind_of (unversioned o).spec) (unversioned o) };
    members = sym (ap (client_line e.moment e.key) is);
    asks = (refl, asked o (form.good o by is) (legible.put o by is));
    tells = (refl, (by, (o, is, refl)));
  }

  body_for : e.actor ≡ Reporter → (o : Object) → e.object ≡ Some o → (b : Body) → o.body ≡ b → IsLineFor e Reporter
  body_for by o is (Health uid resources container ever) b = record {
    line = record { moment = e.moment; deed = Report (record { revision = e.key.name; resources = resources; container = container }) };
    members = sym (ap (reporter_line e.moment e.key.name) is ∙ ap (body_line e.moment e.key.name) b);
    asks = tt;
    tells = (refl, (by, refl, (o, is, subst (IsHealthOf resources container) (sym b) (refl, refl))));
  }
  body_for by o is (Service template traffic status) b = absurd (no_other e o _ is b (form.health by))
  body_for by o is (Configuration template status) b = absurd (no_other e o _ is b (form.health by))
  body_for by o is (Revision pod generation pins active status) b = absurd (no_other e o _ is b (form.health by))
  body_for by o is (Route traffic status) b = absurd (no_other e o _ is b (form.health by))
  body_for by o is (Table route rows targets) b = absurd (no_other e o _ is b (form.health by))

  reporter_for : e.actor ≡ Reporter → (o : Option Object) → e.object ≡ o → IsLineFor e Reporter
  reporter_for by None is = (let h = form.health by in let puts = h.1 in absurd cc)
  reporter_for by (Some o) is = body_for by o is o.body refl

  entry_for : (a : Actor) → e.actor ≡ a → IsLineFor e a
  unfolding controller_line
  entry_for Client by = client_for by e.object refl
  entry_for Reporter by = reporter_for by e.object refl
  entry_for (Controller key) by = record { line = record { moment = e.moment; deed = Write key e.read_at e.seen }; members = refl; asks = tt; tells = (refl, (by, refl, refl)) }

  -- the line of an entry
  pub line_for : IsLineFor e e.actor
  line_for = entry_for e.actor refl
