use Rattle.std.proofs.Common.{rules, ◌≡◌, List, ℕ, map, subst, IfOk}
use Rattle.std.proofs.lemmas.Iterator.{YieldsList-from_slice, YieldsList-from_map_by}
use Rattle.std.proofs.lemmas.Iterator.Consumers.{map_from_collect}
use Rattle.std.proofs.lemmas.List.{map-id}
use Rattle.command_words.proofs.options.borrowed.Goals as goal

pub returns : goal.returns
returns c = subst (λ (all : List (List ℕ)). IfOk c.collect.result (λ texts. map (λ t. t.now) texts.items ≡ all)) (map-id c.args.words.now)
    (map_from_collect _ c.collect.ensures.ran (YieldsList-from_map_by _ (λ t. t.now) (λ t. t) (YieldsList-from_slice c.args.words.now cc) c.map.ensures.closure (λ x r q k. search rules)))
