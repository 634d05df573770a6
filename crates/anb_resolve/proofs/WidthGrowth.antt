-- Terms whose arrivals are four times as long are at most four times as wide.
use Rattle.std.proofs.Common.{◌≡◌, ℕ, ◌+◌, ◌*◌, ◌≤◌, List, [], ◌∷◌, ◌++◌, length, ap, ◌∙◌, refl, arith, true, Option, None}
use Rattle.std.specs.Prelude.{nat_le, not}
use Rattle.std.specs.List.{zip}
use Rattle.std.proofs.lemmas.Bool.{leb-true, le-leb, and_parts, and_from, not-false}
use Rattle.anb_lemmas.proofs.Options.{or_is_none}
use Rattle.anb_format.specs.declared.pieces.Piece.{Piece}
use Rattle.anb_format.specs.declared.pieces.Piece.TheVariants.{Lit, Field}
use Rattle.anb_format.specs.Formats.{FormatValue, pieces_at}
use Rattle.anb_format.specs.Widths.{pieces_width}
use Rattle.anb_format.proofs.Narrow.{field_within}
use Rattle.anb_term.specs.declared.term.Op.{Op}
use Rattle.anb_term.specs.declared.term.Op.TheVariants.{Hash, Mac, Seal, Wrap, Format}
use Rattle.anb_term.specs.Tree.{Tree, leaf, node, Trees, none, more}
use Rattle.anb_protocol.specs.declared.refusals.ResolveNo.{ResolveNo}
use Rattle.anb_protocol.specs.declared.refusals.ResolveNo.TheVariants.{Wide}
use Rattle.anb_protocol.specs.declared.refusals.Item.TheVariants.{Know, Action}
use Rattle.anb_protocol.specs.Choices.{refuse_if, first, first_after}
use Rattle.anb_protocol.specs.Protocols.{ActionValue, ProtocolValue, protocol_of}
use Rattle.anb_protocol.specs.Checks.{first_fault, protocol_checks, misshapen, overlap, self_send, known_twice, wide_knowledge, wide_message}
use Rattle.anb_protocol.proofs.Faultless.{refused_none, stages}
use Rattle.anb_protocol.proofs.FirstLemmas.{passes}
use Rattle.anb_protocol.proofs.OrLemmas.{skip}
use Rattle.anb_protocol.proofs.Building.{fault_protocol}
use Rattle.anb_protocol.specs.Widths.{sealed_width, op_width, width, widths, fits_width, fit_width, all_fit_width}
use Rattle.anb_resolve.specs.Laws.{LimitsGrow}

-- each is at most four times the one beside it
abbrev pub Within : List ℕ → List ℕ → Type 0
Within [] [] = Unit {0}
Within [] (v ∷ vs) = ⊥
Within (w ∷ ws) [] = ⊥
Within (w ∷ ws) (v ∷ vs) = (v ≤ 4 * w) × Within ws vs

sealed_grows : (ws vs : List ℕ) → Within ws vs → sealed_width vs ≤ 4 * sealed_width ws
sealed_grows [] [] h = omega arith
sealed_grows [] (v ∷ vs) h = absurd h
sealed_grows (w ∷ ws) [] h = absurd h
sealed_grows (w ∷ []) (v ∷ []) h = omega (arith, h.0)
sealed_grows (w ∷ []) (v ∷ v2 ∷ vs) h = absurd h.1
sealed_grows (w ∷ w2 ∷ ws) (v ∷ []) h = absurd h.1
sealed_grows (w ∷ w2 ∷ ws) (v ∷ v2 ∷ vs) h = sealed_grows (w2 ∷ ws) (v2 ∷ vs) h.1

pieces_grow : (ps : List Piece) (ws vs : List ℕ) → Within ws vs → pieces_width ps vs ≤ 4 * pieces_width ps ws
pieces_grow [] ws vs h = omega arith
pieces_grow (Lit text ∷ ps) ws vs h = omega (arith, pieces_grow ps ws vs h)
pieces_grow (Field k ∷ ps) [] [] h = omega arith
pieces_grow (Field k ∷ ps) [] (v ∷ vs) h = absurd h
pieces_grow (Field k ∷ ps) (w ∷ ws) [] h = absurd h
pieces_grow (Field k ∷ ps) (w ∷ ws) (v ∷ vs) h = omega (arith, field_within k w v h.0, pieces_grow ps ws vs h.1)

op_grows : (least : ℕ) (formats : List FormatValue) (o : Op) (ws vs : List ℕ) → Within ws vs → op_width (4 * least) formats o vs ≤ 4 * op_width least formats o ws
op_grows least formats Hash ws vs h = omega arith
op_grows least formats Mac ws vs h = omega arith
op_grows least formats Seal ws vs h = sealed_grows ws vs h
op_grows least formats Wrap ws vs h = sealed_grows ws vs h
op_grows least formats (Format i a) ws vs h = omega (arith, pieces_grow (pieces_at formats i) ws vs h)

mutual
  width_grows : (least : ℕ) (formats : List FormatValue) (t : Tree) → width (4 * least) formats t ≤ 4 * width least formats t
  width_grows least formats (leaf a) = omega arith
  width_grows least formats (node o ts) = op_grows least formats o (widths least formats ts) (widths (4 * least) formats ts) (widths_grow least formats ts)

  widths_grow : (least : ℕ) (formats : List FormatValue) (ts : Trees) → Within (widths least formats ts) (widths (4 * least) formats ts)
  widths_grow least formats none = tt
  widths_grow least formats (more t ts) = (width_grows least formats t, widths_grow least formats ts)

mutual
  pub fits_grows : (least most : ℕ) (formats : List FormatValue) (t : Tree) → fits_width least formats most t ≡ true → fits_width (4 * least) formats (4 * most) t ≡ true
  fits_grows least most formats (leaf a) e = let l = leb-true least most e in le-leb (4 * least) (4 * most) (omega arith)
  fits_grows least most formats (node o ts) e =
      let h = and_parts (fit_width least formats most ts) (nat_le (op_width least formats o (widths least formats ts)) most) e in
      let l = leb-true (op_width least formats o (widths least formats ts)) most h.1 in
      and_from _ _ (fit_grows least most formats ts h.0)
      (le-leb (op_width (4 * least) formats o (widths (4 * least) formats ts)) (4 * most) (omega (arith, op_grows least formats o (widths least formats ts) (widths (4 * least) formats ts) (widths_grow least formats ts))))

  fit_grows : (least most : ℕ) (formats : List FormatValue) (ts : Trees) → fit_width least formats most ts ≡ true → fit_width (4 * least) formats (4 * most) ts ≡ true
  fit_grows least most formats none e = refl
  fit_grows least most formats (more t ts) e =
      let h = and_parts (fits_width least formats most t) (fit_width least formats most ts) e in and_from _ _ (fits_grows least most formats t h.0) (fit_grows least most formats ts h.1)

pub all_grow : (least most : ℕ) (formats : List FormatValue) (ts : List Tree) → all_fit_width least formats most ts ≡ true → all_fit_width (4 * least) formats (4 * most) ts ≡ true
all_grow least most formats [] e = refl
all_grow least most formats (t ∷ ts) e =
    let h = and_parts (fits_width least formats most t) (all_fit_width least formats most ts) e in and_from _ _ (fits_grows least most formats t h.0) (all_grow least most formats ts h.1)

module _ (least most : ℕ) (formats : List FormatValue) where
  abbrev wide_role : ℕ → ℕ → List ℕ × List Tree → Option ResolveNo
  wide_role l m k = refuse_if (not (all_fit_width l formats m k.1)) (Wide (Know k.0))

  pub knowledge_grows : (ks : List (List ℕ × List Tree)) → first (wide_role least most) ks ≡ None → first (wide_role (4 * least) (4 * most)) ks ≡ None
  knowledge_grows [] e = refl
  knowledge_grows (k ∷ ks) e =
      let h = or_is_none (wide_role least most k) (first (wide_role least most) ks) e in
      let fit = all_grow least most formats k.1 (not-false _ (refused_none (not (all_fit_width least formats most k.1)) (Wide (Know k.0)) h.0)) in
      skip (wide_role (4 * least) (4 * most) k) _ (passes _ (Wide (Know k.0)) (ap not fit)) ∙ knowledge_grows ks h.1

  abbrev wide_action : ℕ → ℕ → List ActionValue → ActionValue → Option ResolveNo
  wide_action l m before a = refuse_if (not (fits_width l formats m a.message)) (Wide (Action (length before + 1)))

  pub messages_grow : (before acts : List ActionValue) → first_after (wide_action least most) before acts ≡ None → first_after (wide_action (4 * least) (4 * most)) before acts ≡ None
  messages_grow before [] e = refl
  messages_grow before (a ∷ acts) e =
      let h = or_is_none (wide_action least most before a) (first_after (wide_action least most) (before ++ a ∷ []) acts) e in
      let fit = fits_grows least most formats a.message (not-false _ (refused_none (not (fits_width least formats most a.message)) (Wide (Action (length before + 1))) h.0)) in
      skip (wide_action (4 * least) (4 * most) before a) _ (passes _ (Wide (Action (length before + 1))) (ap not fit)) ∙ messages_grow (before ++ a ∷ []) acts h.1

protocol_grows : (least most : ℕ) (p : ProtocolValue) → first_fault (protocol_checks least most) p ≡ None → first_fault (protocol_checks (4 * least) (4 * most)) p ≡ None
protocol_grows least most p e =
    let a = or_is_none (self_send p) _ e in
    let b = or_is_none (known_twice p) _ a.1 in
    let d = or_is_none (wide_knowledge least most p) _ b.1 in
    let f = or_is_none (wide_message least most p) _ d.1 in
    skip (self_send p) _ a.0 ∙ skip (known_twice p) _ b.0 ∙ skip (wide_knowledge (4 * least) (4 * most) p) _ (knowledge_grows least most p.formats (zip p.roles p.knows) d.0)
    ∙ skip (wide_message (4 * least) (4 * most) p) None (messages_grow least most p.formats [] p.actions f.0)

pub well_formed_grows : LimitsGrow
well_formed_grows = λ least most n e.
    let st = stages least most n e in
    let m = or_is_none (misshapen n) _ st.formats in
    let o = or_is_none (overlap n) _ m.1 in
    fault_protocol (4 * least) (4 * most) n st.limits st.names m.0 o.0 ∙ protocol_grows least most (protocol_of n) st.protocol
