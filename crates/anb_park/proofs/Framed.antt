-- Bytes that are frames, one after another.
use Rattle.std.proofs.Common.{◌≡◌, true, false, ◌+◌, ◌<◌, ◌≤◌, ◌^◌, ℕ, zero, suc, List, [], ◌∷◌, ◌++◌, length, take, drop, All, refl, sym, ap, ◌∙◌, subst, arith, append_assoc, length-append}
use Rattle.std.proofs.lemmas.List.{take_at, drop_at, append-nil, take-append-drop, length-drop}
use Rattle.std.proofs.lemmas.List.Elements.{All-nil, All-cons, All-head, All-tail, All-append}
use Rattle.std.proofs.lemmas.Grind.{flat_map-append}
use Rattle.anb_base.specs.declared.TheConstants.{ARRIVAL}
use Rattle.anb_frame.specs.Frames.{length_bytes, frame, frames}
use Rattle.anb_frame.specs.Cuts.{Tail, End, Cut}
use Rattle.anb_frame.proofs.Lengths.{length-length_bytes, same_length_bytes}
use Rattle.anb_frame.proofs.Cuts.{cut_of_frame, same_cut}
use Rattle.anb_park.specs.Going.{AreFrames}

-- two frames in front of the same bytes
pub same_frame : (b d xs ys : List ℕ) → length b ≤ ARRIVAL → length d ≤ ARRIVAL → frame b ++ xs ≡ frame d ++ ys → (b ≡ d) × (xs ≡ ys)
same_frame b d xs ys fits fits_too e =
    let both : length_bytes (length b) ++ (b ++ xs) ≡ length_bytes (length d) ++ (d ++ ys) = sym (append_assoc (length_bytes (length b)) b xs) ∙ e ∙ append_assoc (length_bytes (length d)) d ys in
    let s = same_length_bytes (length b) (length d) (b ++ xs) (d ++ ys) (omega (arith, fits)) (omega (arith, fits_too)) both in
    (sym (take_at b xs (length b) refl) ∙ ap (take (length b)) s.1 ∙ take_at d ys (length b) (sym s.0), sym (drop_at b xs (length b) refl) ∙ ap (drop (length b)) s.1 ∙ drop_at d ys (length b) (sym s.0))

-- a frame is something
pub no_frame : (b xs : List ℕ) → [] ≡ frame b ++ xs → ⊥
no_frame b xs e =
    let n : 0 ≡ length (frame b ++ xs) = ap length e in
    omega (arith, n, length-append (frame b) xs, length-append (length_bytes (length b)) b, length-length_bytes (length b))

pub four_at_least : (b xs : List ℕ) → length (frame b ++ xs) ≡ 4 + length b + length xs
four_at_least b xs = omega (arith, length-append (frame b) xs, length-append (length_bytes (length b)) b, length-length_bytes (length b))

-- frames as a cut, and back
pub cut_of : (x : List ℕ) (bs : List (List ℕ)) → AreFrames x bs → Cut ARRIVAL x bs End
cut_of x bs a = ([], a.whole ∙ sym (append-nil (frames bs)), a.short, refl)

pub of_cut : (x : List ℕ) (bs : List (List ℕ)) → Cut ARRIVAL x bs End → AreFrames x bs
of_cut x bs c = record { whole = c.1 ∙ ap (λ z. frames bs ++ z) c.3 ∙ append-nil (frames bs); short = c.2 }

pub same_frames : (x : List ℕ) (bs ds : List (List ℕ)) → AreFrames x bs → AreFrames x ds → bs ≡ ds
same_frames x bs ds a c = (same_cut ARRIVAL (omega arith) x bs ds End End (cut_of x bs a) (cut_of x ds c)).0

-- the cut behind whole frames
pub cut_behind : (front : List (List ℕ)) (x : List ℕ) → All (λ b. length b ≤ ARRIVAL) front → (bs : List (List ℕ)) (tail : Tail) → Cut ARRIVAL (frames front ++ x) bs tail
    → (rest : List (List ℕ)) × (bs ≡ front ++ rest) × Cut ARRIVAL x rest tail
cut_behind [] x short bs tail c = (bs, refl, c)
cut_behind (b ∷ front) x short bs tail c =
    let r = cut_of_frame ARRIVAL b (frames front ++ x) bs tail (omega arith) (All-head (λ d. length d ≤ ARRIVAL) b front short) (subst (λ y. Cut ARRIVAL y bs tail) (append_assoc (frame b) (frames front) x) c) in
    let s = cut_behind front x (All-tail (λ d. length d ≤ ARRIVAL) b front short) r.0 tail r.2 in
    (s.0, r.1 ∙ ap (λ l. b ∷ l) s.1, s.2)

-- one frame more behind others
pub one_more : (x : List ℕ) (front : List (List ℕ)) (rest b behind : List ℕ) → x ≡ frames front ++ rest → rest ≡ frame b ++ behind → x ≡ frames (front ++ b ∷ []) ++ behind
one_more x front rest b behind whole next =
    let last : frames (front ++ b ∷ []) ≡ frames front ++ frame b = flat_map-append frame front (b ∷ []) ∙ ap (λ t. frames front ++ t) (append-nil (frame b)) in
    whole ∙ ap (λ t. frames front ++ t) next ∙ sym (append_assoc (frames front) (frame b) behind) ∙ ap (λ t. t ++ behind) (sym last)

pub all_more : (front : List (List ℕ)) (b : List ℕ) → All (λ d. length d ≤ ARRIVAL) front → length b ≤ ARRIVAL → All (λ d. length d ≤ ARRIVAL) (front ++ b ∷ [])
all_more front b all fits = All-append (λ d. length d ≤ ARRIVAL) front (b ∷ []) all (All-cons (λ d. length d ≤ ARRIVAL) b [] fits (All-nil (λ d. length d ≤ ARRIVAL)))

-- where no frame begins and something is left there is no cut without a tail
pub no_cut : (x rest : List ℕ) (front : List (List ℕ)) → x ≡ frames front ++ rest → All (λ b. length b ≤ ARRIVAL) front → (rest ≡ [] → ⊥)
    → ((b r : List ℕ) → length b ≤ ARRIVAL → rest ≡ frame b ++ r → ⊥) → (bs : List (List ℕ)) → Cut ARRIVAL x bs End → ⊥
no_cut x rest front whole all some none bs c =
    let behind = cut_behind front rest all bs End (subst (λ y. Cut ARRIVAL y bs End) whole c) in by behind.0 (of_cut rest behind.0 behind.2) where
      by : (ds : List (List ℕ)) → AreFrames rest ds → ⊥
      by [] a = some a.whole
      by (d ∷ ds) a = none d (frames ds) (All-head (λ b. length b ≤ ARRIVAL) d ds a.short) a.whole

-- the first of frames, where one begins there
pub first_frame : (x b behind : List ℕ) (bs : List (List ℕ)) → AreFrames x bs → length b ≤ ARRIVAL → x ≡ frame b ++ behind → (ds : List (List ℕ)) × (bs ≡ b ∷ ds) × AreFrames behind ds
first_frame x b behind [] a fits e = absurd (no_frame b behind (sym a.whole ∙ e))
first_frame x b behind (d ∷ ds) a fits e =
    let s = same_frame d b (frames ds) behind (All-head (λ t. length t ≤ ARRIVAL) d ds a.short) fits (sym a.whole ∙ e) in
    (ds, ap (λ t. t ∷ ds) s.0, record { whole = sym s.1; short = All-tail (λ t. length t ≤ ARRIVAL) d ds a.short })

-- the next of a list
pub next_of : (bs : List (List ℕ)) (i : ℕ) (b : List ℕ) (ds : List (List ℕ)) → drop i bs ≡ b ∷ ds → (take (i + 1) bs ≡ take i bs ++ b ∷ []) × (drop (i + 1) bs ≡ ds)
next_of [] zero b ds e = cc
next_of [] (suc i) b ds e = cc
next_of (d ∷ rest) zero b ds e = (ap (λ t. t ∷ []) (first d b rest ds e), others d b rest ds e) where
  first : (d b : List ℕ) (rest ds : List (List ℕ)) → d ∷ rest ≡ b ∷ ds → d ≡ b
  first d b rest ds e = cc

  others : (d b : List ℕ) (rest ds : List (List ℕ)) → d ∷ rest ≡ b ∷ ds → rest ≡ ds
  others d b rest ds e = cc
next_of (d ∷ rest) (suc i) b ds e = let n = next_of rest i b ds e in rw (after i) (ap (λ l. d ∷ l) n.0, n.1) where
  after : (k : ℕ) → suc k + 1 ≡ suc (k + 1)
  after k = omega arith

-- what begins with a frame begins with its length, and is long enough
pub begins_so : (bytes front back b rest : List ℕ) (len : ℕ) → len < 2 ^ 32 → front ≡ take 4 bytes → back ≡ drop 4 bytes → length_bytes len ≡ front → length b ≤ ARRIVAL → bytes ≡ frame b ++ rest
    → (length b ≡ len) × (length b ≤ length back)
begins_so bytes front back b rest len small is_front is_back said fits e =
    let whole : length_bytes (length b) ++ (b ++ rest) ≡ length_bytes len ++ back = sym (append_assoc (length_bytes (length b)) b rest) ∙ sym e ∙ sym (take-append-drop 4 bytes) ∙ ap (λ t. t ++ drop 4 bytes) (sym is_front ∙ sym said) ∙ ap (λ t. length_bytes len ++ t) (sym is_back) in
    let s = same_length_bytes (length b) len (b ++ rest) back (omega (arith, fits)) small whole in
    (s.0, omega (arith, ap length s.1, length-append b rest))

-- where some of the frames are left, one begins there
pub one_left : (bs : List (List ℕ)) (i : ℕ) (rest : List ℕ) → i < length bs → AreFrames rest (drop i bs) → ((b r : List ℕ) → length b ≤ ARRIVAL → rest ≡ frame b ++ r → ⊥) → ⊥
one_left bs i rest within a none = by (drop i bs) (omega (arith, length-drop {A = List ℕ}, within)) a where
  by : (ds : List (List ℕ)) → 0 < length ds → AreFrames rest ds → ⊥
  by [] some a = omega (arith, some)
  by (d ∷ ds) some a = none d (frames ds) (All-head (λ b. length b ≤ ARRIVAL) d ds a.short) a.whole

pub not_so : false ≡ true → ⊥
not_so e = cc

pub pushed : (values now bs : List (List ℕ)) (i : ℕ) (b v : List ℕ) → now ≡ values ++ v ∷ [] → values ≡ take i bs → v ≡ b → take (i + 1) bs ≡ take i bs ++ b ∷ [] → now ≡ take (i + 1) bs
pushed values now bs i b v is so same next = is ∙ ap (λ (l : List (List ℕ)). l ++ v ∷ []) so ∙ ap (λ (w : List ℕ). take i bs ++ w ∷ []) same ∙ sym next
