-- The lines of the first notices, and of the next.
use Rattle.std.proofs.Common.{◌≡◌, ◌<◌, ◌+◌, ℕ, List, [], ◌∷◌, ◌++◌, length, take, refl, sym, ap, ◌∙◌, subst, append_assoc, append-nil}
use Rattle.std.specs.Prelude.{get_or}
use Rattle.std.specs.List.{AllByRecursion, flat_map}
use Rattle.std.proofs.lemmas.List.{take_all}
use Rattle.anb_lemmas.proofs.Each.{take_next}
use Rattle.anb_recording.specs.Joining.{plain_joined}
use Rattle.anb_recording.specs.Lines.{IsPlain, lines_text}
use Rattle.anb_transcript.specs.declared.transcript.TranscriptLine.{TranscriptLine}
use Rattle.anb_host.specs.declared.event.Notice.{Notice}
use Rattle.anb_host_recording.specs.Entries.{line_out}
use Rattle.anb_host_recording.proofs.Filing.{text_joined}

out_joined : (xs ys : List Notice) → flat_map line_out (xs ++ ys) ≡ flat_map line_out xs ++ flat_map line_out ys
out_joined [] ys = refl
out_joined (x ∷ xs) ys = ap (λ (l : List TranscriptLine). line_out x ++ l) (out_joined xs ys) ∙ sym (append_assoc (line_out x) (flat_map line_out xs) (flat_map line_out ys))

module _ (told : List Notice) (i : ℕ) (n : Notice) (there : i < length told) (is : n ≡ get_or told i n) where
  next : flat_map line_out (take (i + 1) told) ≡ flat_map line_out (take i told) ++ line_out n
  next = ap (flat_map line_out) (take_next told i n there is) ∙ out_joined (take i told) (n ∷ []) ∙ ap (λ (l : List TranscriptLine). flat_map line_out (take i told) ++ l) (append-nil (line_out n))

  pub next_put : (first before after : List ℕ) → before ≡ first ++ lines_text (flat_map line_out (take i told)) → after ≡ before ++ lines_text (line_out n)
      → after ≡ first ++ lines_text (flat_map line_out (take (i + 1) told))
  next_put first before after was put =
      put ∙ ap (λ (l : List ℕ). l ++ lines_text (line_out n)) was ∙ append_assoc first (lines_text (flat_map line_out (take i told))) (lines_text (line_out n))
      ∙ ap (λ (l : List ℕ). first ++ l) (sym (text_joined (flat_map line_out (take i told)) (line_out n)) ∙ ap lines_text (sym next))

  pub next_plain : AllByRecursion IsPlain (flat_map line_out (take i told)) → AllByRecursion IsPlain (line_out n) → AllByRecursion IsPlain (flat_map line_out (take (i + 1) told))
  next_plain was plain = subst (AllByRecursion IsPlain) (sym next) (plain_joined (flat_map line_out (take i told)) (line_out n) was plain)
