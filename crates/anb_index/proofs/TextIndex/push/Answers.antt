use Rattle.std.proofs.Common.{◌≡◌, ◌∙◌, cond, Some, ◌∷◌, ◌++◌, [], ap, sym, false, true, List, ℕ, length, map}
use Rattle.std.specs.BTreeMap.{get_by}
use Rattle.std.specs.Cmp.Lexicographic.{slice_cmp}
use Rattle.std.specs.Option.{is_some}
use Rattle.std.specs.Ordering.{nat_cmp}
use Rattle.std.specs.Str.{bytes_eq}
use Rattle.std.proofs.lemmas.List.{map_push, length-map}
use Rattle.std.proofs.lemmas.Map.Text.{btree_map_updates_str}
use denote.Ref.{Bor}
use Rattle.anb_index.specs.Places.{among, place_of}
use Rattle.anb_index.proofs.PlaceLemmas.{is_some-position_from, place_of-found, place_of-new}
use Rattle.anb_index.proofs.TextIndex.push.Goals as goal
use Rattle.anb_index.proofs.TextIndex.push.Goals.{In_ok-push}

-- whether the text stands there already
found : (c : In_ok-push) → c.contains_key-found.result ≡ among (map (λ (t : Bor (List ℕ)). t.now) c.self.inside.texts.items) c.args.text.now
found c =
    c.contains_key-found.ensures ∙ ap is_some (c.self.invariant c.args.text.now)
    ∙ is_some-position_from (λ y. bytes_eq y c.args.text.now) 0 _

-- the texts behind the call
pushed : (c : In_ok-push) → map (λ (t : Bor (List ℕ)). t.now) c.push.new.self.items ≡ map (λ (t : Bor (List ℕ)). t.now) c.self.inside.texts.items ++ c.args.text.now ∷ []
pushed c = ap (map (λ (t : Bor (List ℕ)). t.now)) c.in_ok-push.ensures.items ∙ map_push (λ (t : Bor (List ℕ)). t.now) c.self.inside.texts.items c.args.text

pub invariant_of-self-in-Ok : goal.invariant_of-self-in-Ok
invariant_of-self-in-Ok c q =
    let step = (goal.at.invariant_of-self-in-Ok c).In_ok-push in
    let texts = map (λ (t : Bor (List ℕ)). t.now) c.self.inside.texts.items in
    let new : among texts c.args.text.now ≡ false = sym (found step) ∙ c.if-not-found.true in
    let last : c.len-place.result ≡ length texts = c.len-place.ensures ∙ c.self.inside.texts.ok.0 ∙ sym (length-map c.self.inside.texts.items (λ (t : Bor (List ℕ)). t.now)) in
    btree_map_updates_str c.args.text.now c.self.inside.places c.insert.new.self _ c.in-Ok.ensures.updates q
    ∙ ap (λ n. cond (bytes_eq c.args.text.now q) (Some n) (get_by (λ k. slice_cmp nat_cmp q k.now) c.self.inside.places)) last
    ∙ place_of-new texts c.args.text.now _ q new (c.self.invariant q)
    ∙ ap (λ ts. place_of ts q) (sym (pushed step))

pub invariant_of-self-else-not-found : goal.invariant_of-self-else-not-found
invariant_of-self-else-not-found c q =
    let step = (goal.at.invariant_of-self-else-not-found c).In_ok-push in
    let texts = map (λ (t : Bor (List ℕ)). t.now) c.self.inside.texts.items in
    let there : among texts c.args.text.now ≡ true = sym (found step) ∙ c.if-not-found.false in
    c.self.invariant q ∙ sym (place_of-found texts c.args.text.now q there) ∙ ap (λ ts. place_of ts q) (sym (pushed step))

pub returns-in-Ok-clause-found : goal.returns-in-Ok-clause-found
returns-in-Ok-clause-found c = found (goal.at.returns-in-Ok-clause-found c).In_ok-push ∙ ap (λ ts. among ts c.args.text.now) c.self.view_is

pub returns-else-not-found-clause-found : goal.returns-else-not-found-clause-found
returns-else-not-found-clause-found c = found (goal.at.returns-else-not-found-clause-found c).In_ok-push ∙ ap (λ ts. among ts c.args.text.now) c.self.view_is
