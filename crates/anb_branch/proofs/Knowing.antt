-- What a role knows is the same in all arms.
use Rattle.std.proofs.Common.{◌≡◌, ℕ, zero, suc, ◌+◌, List, [], ◌∷◌, ◌++◌, length, map, take, Bool, true, false, cond, refl, sym, ap, ◌∙◌, arith}
use Rattle.std.specs.Prelude.{slice_get, ◌==◌}
use Rattle.std.specs.Option.{option_map_or}
use Rattle.anb_lemmas.proofs.Each.{each_got}
use Rattle.anb_format.specs.Formats.{FormatValue}
use Rattle.anb_term.specs.declared.term.Op.{Op}
use Rattle.anb_term.specs.declared.term.Op.TheVariants.{Hash, Mac, Seal, Wrap, Format}
use Rattle.anb_term.specs.Tree as term
use Rattle.anb_syntax.specs.Grammar.{atom, apply, Trees, none, more}
use Rattle.anb_syntax.specs.Canon.{canon_tree}
use Rattle.anb_protocol.specs.declared.parts.Atom.{Atom}
use Rattle.anb_protocol.specs.Choices.{each_after}
use Rattle.anb_protocol.specs.Protocols.{ActionValue, ProtocolValue, role_number}
use Rattle.anb_protocol.specs.Plans.{PlanEvent, to_know, to_make, to_send, to_receive, events_at, made, plan_of}
use Rattle.anb_protocol.specs.Texts.{known_by, spelled, spelled_all, term_text, written}
use Rattle.anb_choice.specs.Lawful.{stem_len, stem_part}
use Rattle.anb_branch.specs.Laws.{ArmsKnowAlike}
use Rattle.anb_branch.proofs.Agreeing.{HasStem, first_arm}

-- ---- terms

-- the terms that a plan knows at its beginning
abbrev leading : List PlanEvent → List term.Tree
leading (to_know t ∷ es) = t ∷ leading es
leading es = []

leading_knows : (ts : List term.Tree) (es : List PlanEvent) → leading es ≡ [] → leading (map to_know ts ++ es) ≡ ts
leading_knows [] es none_known = none_known
leading_knows (t ∷ ts) es none_known = ap (λ l. t ∷ l) (leading_knows ts es none_known)

leading_taken : (n : ℕ) (es : List PlanEvent) → leading es ≡ [] → leading (take n es) ≡ []
leading_taken zero es none_known = refl
leading_taken (suc n) [] none_known = refl
leading_taken (suc n) (to_know t ∷ es) none_known = cc
leading_taken (suc n) (to_make t ∷ es) none_known = refl
leading_taken (suc n) (to_send i t ∷ es) none_known = refl
leading_taken (suc n) (to_receive i t ∷ es) none_known = refl

stem_knows : (stem : ℕ) (ts : List term.Tree) (es : List PlanEvent) → stem_part stem (map to_know ts ++ es) ≡ map to_know ts ++ stem_part stem es
stem_knows stem [] es = refl
stem_knows stem (t ∷ ts) es =
    let more_of : 1 + stem_len stem (map to_know ts ++ es) ≡ suc (stem_len stem (map to_know ts ++ es)) = omega arith in
    ap (λ n. take n (to_know t ∷ (map to_know ts ++ es))) more_of ∙ ap (λ l. to_know t ∷ l) (stem_knows stem ts es)

leading_made : (xs : List ℕ) (i : ℕ) (m : term.Tree) (es : List PlanEvent) → leading ((map (λ x. to_make (term.leaf x)) xs ++ to_send i m ∷ []) ++ es) ≡ []
leading_made [] i m es = refl
leading_made (x ∷ xs) i m es = refl

leading_rest : (p : ProtocolValue) (role : ℕ) (before actions : List ActionValue) → leading (each_after (events_at p role) before actions) ≡ []
leading_rest p role before [] = refl
leading_rest p role before (a ∷ actions) = by (a.from == role) (a.to == role) (leading_rest p role (before ++ a ∷ []) actions) where
  names : List ℕ
  names = made p before a.message

  by : (b d : Bool) → leading (each_after (events_at p role) (before ++ a ∷ []) actions) ≡ []
      → leading (cond b (map (λ x. to_make (term.leaf x)) names ++ to_send (length before + 1) a.message ∷ []) (cond d (to_receive (length before + 1) a.message ∷ []) [])
      ++ each_after (events_at p role) (before ++ a ∷ []) actions) ≡ []
  by true d later = leading_made names (length before + 1) a.message (each_after (events_at p role) (before ++ a ∷ []) actions)
  by false true later = refl
  by false false later = later

-- they are what the role knows, and stand in the stem
leading_stem : (stem : ℕ) (p : ProtocolValue) (role : ℕ) → leading (stem_part stem (plan_of p role)) ≡ known_by p role
unfolding plan_of
leading_stem stem p role =
    let rest = each_after (events_at p role) [] p.actions in
    ap leading (stem_knows stem (known_by p role) rest)
    ∙ leading_knows (known_by p role) (stem_part stem rest) (leading_taken (stem_len stem rest) rest (leading_rest p role [] p.actions))

-- ---- texts

module _ (p q : ProtocolValue) (atoms : p.atoms ≡ q.atoms) (formats : p.formats ≡ q.formats) where
  same_written : (o : Op) (ts : Trees) → written p o ts ≡ written q o ts
  same_written Hash none = refl
  same_written Hash (more t none) = refl
  same_written Hash (more t (more u us)) = refl
  same_written Mac none = refl
  same_written Mac (more t none) = refl
  same_written Mac (more t (more u none)) = refl
  same_written Mac (more t (more u (more v vs))) = refl
  same_written Seal none = refl
  same_written Seal (more t none) = refl
  same_written Seal (more t (more u none)) = refl
  same_written Seal (more t (more u (more v vs))) = refl
  same_written Wrap none = refl
  same_written Wrap (more t none) = refl
  same_written Wrap (more t (more u none)) = refl
  same_written Wrap (more t (more u (more v none))) = refl
  same_written Wrap (more t (more u (more v (more w ws)))) = refl
  same_written (Format i arity) ts = ap (λ (fs : List FormatValue). apply (option_map_or (λ (f : FormatValue). f.name) (slice_get fs i) []) ts) formats

  mutual
    same_spelled : (t : term.Tree) → spelled p t ≡ spelled q t
    same_spelled (term.leaf a) = ap (λ (xs : List Atom). atom (option_map_or (λ (x : Atom). x.name) (slice_get xs a) [])) atoms
    same_spelled (term.node o ts) = ap (written p o) (same_all ts) ∙ same_written o (spelled_all q ts)

    same_all : (ts : term.Trees) → spelled_all p ts ≡ spelled_all q ts
    same_all term.none = refl
    same_all (term.more t ts) = ap (λ u. more u (spelled_all p ts)) (same_spelled t) ∙ ap (λ us. more (spelled q t) us) (same_all ts)

  same_texts : (ts : List term.Tree) → map (term_text p) ts ≡ map (term_text q) ts
  same_texts [] = refl
  same_texts (t ∷ ts) = ap (λ x. canon_tree x ∷ map (term_text p) ts) (same_spelled t) ∙ ap (λ l. term_text q t ∷ l) (same_texts ts)

-- ---- any two arms

pub know_alike : ArmsKnowAlike
know_alike b role law is i j p q at_p at_q =
    let f = first_arm b role law is in
    let hp = each_got (HasStem b.stem role f.one) b.arms i p f.stems at_p in
    let hq = each_got (HasStem b.stem role f.one) b.arms j q f.stems at_q in
    let known : known_by p (role_number p.roles role) ≡ known_by q (role_number q.roles role) =
    sym (leading_stem b.stem p (role_number p.roles role)) ∙ ap leading (hp.part ∙ sym hq.part) ∙ leading_stem b.stem q (role_number q.roles role) in
    ap (map (term_text p)) known
    ∙ same_texts p q (hp.atoms ∙ sym hq.atoms) (hp.formats ∙ sym hq.formats) (known_by q (role_number q.roles role))
