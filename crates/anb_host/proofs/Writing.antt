-- The frames of notices, written one by one.
use Rattle.std.proofs.Common.{◌≡◌, ◌+◌, ◌<◌, ℕ, List, [], ◌∷◌, ◌++◌, length, take, drop, get_or, Option, refl, sym, ap, ◌∙◌, subst, arith, append_assoc}
use Rattle.std.proofs.lemmas.List.{append-nil, take-append-drop}
use Rattle.anb_base.specs.Moves.{Put, PutPrefix}
use Rattle.anb_base.proofs.Joined.{Put-joined}
use Rattle.anb_base.proofs.Moving.{put_nothing, put_further, put_within}
use Rattle.anb_lemmas.proofs.Each.{take_next}
use Rattle.anb_host.specs.declared.event.Notice.{Notice}
use Rattle.anb_host.specs.HostFrames.{notice_frame, out}

pub out-append : (xs ys : List Notice) → out (xs ++ ys) ≡ out xs ++ out ys
out-append [] ys = refl
out-append (x ∷ xs) ys = ap (λ l. notice_frame x ++ l) (out-append xs ys) ∙ sym (append_assoc (notice_frame x) (out xs) (out ys))

-- nothing is a prefix of anything
pub put_none : (a : Option (List ℕ)) (x : List ℕ) → PutPrefix a a x
put_none a x = (0, omega arith, put_nothing a)

module _ (told : List Notice) (i : ℕ) where
  split : out told ≡ out (take i told) ++ out (drop i told)
  split = ap out (sym (take-append-drop i told)) ∙ out-append (take i told) (drop i told)

  -- the frames of the first i notices
  pub front_put : (a b : Option (List ℕ)) → Put a b (out (take i told)) → PutPrefix a b (out told)
  front_put a b p = subst (PutPrefix a b) (sym split) (put_further a b b (out (take i told)) (out (drop i told)) p (put_none b (out (drop i told))))

  module _ (n : Notice) (there : i < length told) (is : n ≡ get_or told i n) where
    next : out (take (i + 1) told) ≡ out (take i told) ++ notice_frame n
    next = ap out (take_next told i n there is) ∙ out-append (take i told) (n ∷ []) ∙ ap (λ l. out (take i told) ++ l) (append-nil (notice_frame n))

    -- and the next
    pub next_put : (a b c : Option (List ℕ)) → Put a b (out (take i told)) → Put b c (notice_frame n) → Put a c (out (take (i + 1) told))
    next_put a b c p q = subst (Put a c) (sym next) (Put-joined a b c (out (take i told)) (notice_frame n) p q)

    pub next_put_in_part : (a b c : Option (List ℕ)) → Put a b (out (take i told)) → PutPrefix b c (notice_frame n) → PutPrefix a c (out told)
    next_put_in_part a b c p q =
        let whole : out told ≡ (out (take i told) ++ notice_frame n) ++ out (drop (i + 1) told) =
        ap out (sym (take-append-drop (i + 1) told)) ∙ out-append (take (i + 1) told) (drop (i + 1) told) ∙ ap (λ l. l ++ out (drop (i + 1) told)) next in
        subst (PutPrefix a c) (sym whole) (put_within a c (out (take i told) ++ notice_frame n) (out (drop (i + 1) told)) (put_further a b c (out (take i told)) (notice_frame n) p q))
