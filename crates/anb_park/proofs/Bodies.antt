-- Bodies by their parts, and why a record is refused.
use Rattle.std.proofs.Common.{◌≡◌, ◌≢◌, Result, Ok, Err, ◌+◌, ◌<◌, ◌≤◌, ◌^◌, ◌⊎◌, inl, inr, ℕ, List, [], ◌++◌, length, take, drop, refl, sym, ap, ◌∙◌, subst, arith, append_assoc, length-append}
use Rattle.std.specs.Result.{IfErr}
use Rattle.std.proofs.lemmas.List.{take_at, drop_at}
use Rattle.std.proofs.lemmas.List.Elements.{All-append}
use Rattle.std.proofs.lemmas.Grind.{flat_map-append}
use Rattle.anb_base.specs.declared.content.Suite.TheVariants.{One}
use Rattle.anb_base.specs.declared.TheConstants.{ARRIVAL}
use Rattle.anb_seal.specs.Primitives.{sealed, key_for}
use Rattle.anb_seal.proofs.Closed.{closed_apart}
use Rattle.anb_frame.specs.Frames.{length_bytes, frame, frames}
use Rattle.anb_frame.specs.Cuts.{End, Cut}
use Rattle.anb_frame.proofs.Lengths.{length-length_bytes, same_length_bytes}
use Rattle.anb_park.specs.declared.resuming.ParkNo.{ParkNo}
use Rattle.anb_park.specs.declared.resuming.ParkNo.TheVariants.{Damaged, Body, Other, NotWaiting, NoMemory}
use Rattle.anb_park.specs.Records.{Parked, marker, body_of, record_of, HasSizes, IsNoBody, RefusesBody, Refuses, Accepts}
use Rattle.anb_park.specs.declared.body.Head.{Head}
use Rattle.anb_park.specs.Going.{AreFrames, HasHead}
use Rattle.anb_park.proofs.Framed.{same_frames, cut_of, of_cut}

-- two fronts of one length
same_front : {A : Type 0} (a b x y : List A) → length a ≡ length b → a ++ x ≡ b ++ y → (a ≡ b) × (x ≡ y)
same_front a b x y long e =
    (sym (take_at a x (length a) refl) ∙ ap (take (length a)) e ∙ take_at b y (length a) (sym long), sym (drop_at a x (length a) refl) ∙ ap (drop (length a)) e ∙ drop_at b y (length a) (sym long))

-- all frames of a session
pub all_frames : (takes : ℕ) (p : Parked) → HasSizes takes p → AreFrames (frames p.init ++ frames p.arrivals) (p.init ++ p.arrivals)
all_frames takes p s = record {
  whole = sym (flat_map-append frame p.init p.arrivals);
  short = All-append (λ b. length b ≤ ARRIVAL) p.init p.arrivals s.values s.arrivals;
}

made : (i j s t : List ℕ) (n m : ℕ) (xs ys bs cs : List (List ℕ)) → i ≡ j → s ≡ t → n ≡ m → xs ≡ ys → bs ≡ cs
    → ◌≡◌ {A = Parked} (record { id = i; seed = s; session = n; init = xs; arrivals = bs }) (record { id = j; seed = t; session = m; init = ys; arrivals = cs })
made i j s t n m xs ys bs cs a b c d e = cc

-- what stands in front of the frames
abbrev head_of : List ℕ → List ℕ → ℕ → List ℕ
head_of i s n = marker ++ i ++ s ++ length_bytes n

length_of_head : (i s : List ℕ) (n : ℕ) → length i ≡ 32 → length s ≡ 32 → length (head_of i s n) ≡ 71
length_of_head i s n li ls = omega (arith, li, ls, length-append (marker ++ i ++ s) (length_bytes n), length-append (marker ++ i) s, length-append marker i, length-length_bytes n)

same_heads : (i j s t : List ℕ) (n m : ℕ) → length i ≡ 32 → length j ≡ 32 → length s ≡ 32 → length t ≡ 32 → n < 2 ^ 32 → m < 2 ^ 32 → head_of i s n ≡ head_of j t m → (i ≡ j) × (s ≡ t) × (n ≡ m)
same_heads i j s t n m li lj ls lt small small_too e =
    let three : length (marker ++ i) ≡ length (marker ++ j) = omega (arith, li, lj, length-append marker i, length-append marker j) in
    let both : length (marker ++ i ++ s) ≡ length (marker ++ j ++ t) = omega (arith, three, ls, lt, length-append (marker ++ i) s, length-append (marker ++ j) t) in
    let l = same_front (marker ++ i ++ s) (marker ++ j ++ t) (length_bytes n) (length_bytes m) both e in
    let k = same_front (marker ++ i) (marker ++ j) s t three l.0 in
    let f = same_front marker marker i j refl k.0 in
    let number = same_length_bytes n m [] [] small small_too (ap (λ x. x ++ []) l.1) in
    (f.1, k.1, number.0)

pub same_bodies : (takes : ℕ) (p q : Parked) → HasSizes takes p → HasSizes takes q → body_of p ≡ body_of q → p ≡ q
same_bodies takes p q sp sq e =
    let hp = head_of p.id p.seed p.session in
    let hq = head_of q.id q.seed q.session in
    let whole : hp ++ (frames p.init ++ frames p.arrivals) ≡ hq ++ (frames q.init ++ frames q.arrivals) = sym (append_assoc hp (frames p.init) (frames p.arrivals)) ∙ e ∙ append_assoc hq (frames q.init) (frames q.arrivals) in
    let long : length hp ≡ length hq = length_of_head p.id p.seed p.session sp.id sp.seed ∙ sym (length_of_head q.id q.seed q.session sq.id sq.seed) in
    let r = same_front hp hq (frames p.init ++ frames p.arrivals) (frames q.init ++ frames q.arrivals) long whole in
    let h = same_heads p.id q.id p.seed q.seed p.session q.session sp.id sq.id sp.seed sq.seed sp.session sq.session r.0 in
    let same : p.init ++ p.arrivals ≡ q.init ++ q.arrivals =
    same_frames (frames p.init ++ frames p.arrivals) (p.init ++ p.arrivals) (q.init ++ q.arrivals) (all_frames takes p sp) (subst (λ x. AreFrames x (q.init ++ q.arrivals)) (sym r.1) (all_frames takes q sq)) in
    let f = same_front p.init q.init p.arrivals q.arrivals (sp.init ∙ sym sq.init) same in
    made p.id q.id p.seed q.seed p.session q.session p.init q.init p.arrivals q.arrivals h.0 h.1 h.2 f.0 f.1

-- it is 71 bytes
pub length_head : (i s : List ℕ) (n : ℕ) (x : List ℕ) → length i ≡ 32 → length s ≡ 32 → length (marker ++ i ++ s ++ length_bytes n ++ x) ≡ 71 + length x
length_head i s n x li ls = length-append (head_of i s n) x ∙ ap (λ (k : ℕ). k + length x) (length_of_head i s n li ls)

pub behind_head : (i s : List ℕ) (n : ℕ) (x : List ℕ) → length i ≡ 32 → length s ≡ 32 → drop 71 (marker ++ i ++ s ++ length_bytes n ++ x) ≡ x
behind_head i s n x li ls = drop_at (head_of i s n) x 71 (length_of_head i s n li ls)

-- a body's head, and its frames
whole_body : (p : Parked) → body_of p ≡ head_of p.id p.seed p.session ++ (frames p.init ++ frames p.arrivals)
whole_body p = append_assoc (head_of p.id p.seed p.session) (frames p.init) (frames p.arrivals)

behind_all : (takes : ℕ) (p : Parked) → HasSizes takes p → drop 71 (body_of p) ≡ frames p.init ++ frames p.arrivals
behind_all takes p s = ap (drop 71) (whole_body p) ∙ behind_head p.id p.seed p.session (frames p.init ++ frames p.arrivals) s.id s.seed

length_body : (takes : ℕ) (p : Parked) → HasSizes takes p → length (body_of p) ≡ 71 + length (frames p.init ++ frames p.arrivals)
length_body takes p s = ap length (whole_body p) ∙ length_head p.id p.seed p.session (frames p.init ++ frames p.arrivals) s.id s.seed

pub no_body : (takes : ℕ) (p : Parked) → HasSizes takes p → IsNoBody takes (body_of p) → ⊥
no_body takes p s (inl another) = another refl
no_body takes p s (inr (inl short)) = let long = length_body takes p s in omega (arith, short, long)
no_body takes p s (inr (inr (inl none))) =
    none (p.init ++ p.arrivals) (subst (λ x. Cut ARRIVAL x (p.init ++ p.arrivals) End) (sym (behind_all takes p s)) (cut_of (frames p.init ++ frames p.arrivals) (p.init ++ p.arrivals) (all_frames takes p s)))
no_body takes p s (inr (inr (inr (bs, c, few)))) =
    let there = subst (λ x. AreFrames x bs) (behind_all takes p s) (of_cut (drop 71 (body_of p)) bs c) in
    let same : bs ≡ p.init ++ p.arrivals = same_frames (frames p.init ++ frames p.arrivals) bs (p.init ++ p.arrivals) there (all_frames takes p s) in
    let long : length bs ≡ length (p.init ++ p.arrivals) = ap length same in
    omega (arith, few, long, length-append p.init p.arrivals, s.init)

-- ---- what is no body

module _ (takes : ℕ) (m : List ℕ) (head : Head) (rest : List ℕ) (h : HasHead m head rest) where
  behind : drop 71 m ≡ rest
  behind = ap (drop 71) h.whole ∙ behind_head head.id head.seed head.session rest h.id h.seed

  pub no_frames : ((bs : List (List ℕ)) → Cut ARRIVAL rest bs End → ⊥) → IsNoBody takes m
  no_frames none = inr (inr (inl (λ bs cut. none bs (subst (λ x. Cut ARRIVAL x bs End) behind cut))))

  pub few_frames : (bs : List (List ℕ)) → AreFrames rest bs → length bs < takes → IsNoBody takes m
  few_frames bs a few = inr (inr (inr (bs, subst (λ x. Cut ARRIVAL x bs End) (sym behind) (cut_of rest bs a), few)))

-- ---- one cause

seal_apart : (key m n : List ℕ) → sealed One key m ≡ sealed One key n → m ≡ n
unfolding sealed
seal_apart key m n e = closed_apart One (key_for One 1 key) (key_for One 2 key) [] m n e

pub records_apart : (takes : ℕ) (key : List ℕ) (p q : Parked) → HasSizes takes p → HasSizes takes q → record_of key p ≡ record_of key q → p ≡ q
records_apart takes key p q sp sq e = same_bodies takes p q sp sq (seal_apart key (body_of p) (body_of q) e)

module _ (takes : ℕ) (Waits : Parked → Type 0) (id : List ℕ) where
  body_cause : (p : Parked) (m : List ℕ) (why : ParkNo) → m ≡ body_of p → HasSizes takes p → p.id ≡ id → Waits p → RefusesBody takes Waits id m why → why ≡ NoMemory
  body_cause p m Damaged e s own w r = absurd r
  body_cause p m Body e s own w r = absurd (no_body takes p s (subst (IsNoBody takes) e r))
  body_cause p m Other e s own w (q, f, sq, also) = absurd (also (ap (λ (x : Parked). x.id) (same_bodies takes q p sq s (sym f ∙ e)) ∙ own))
  body_cause p m NotWaiting e s own w (q, f, sq, own_too, still) = absurd (still (subst (Waits) (sym (same_bodies takes q p sq s (sym f ∙ e))) w))
  body_cause p m NoMemory e s own w r = refl

  pub not_refused : (key parked : List ℕ) (p : Parked) (why : ParkNo) → Accepts takes Waits id key parked p → Refuses takes Waits id key parked why → why ≡ NoMemory
  not_refused key parked p Damaged a r = absurd (r (body_of p) (sym a.whole))
  not_refused key parked p Body a (m, is, r) = body_cause p m Body (seal_apart key m (body_of p) (is ∙ a.whole)) a.body.sizes a.body.own a.body.waits r
  not_refused key parked p Other a (m, is, r) = body_cause p m Other (seal_apart key m (body_of p) (is ∙ a.whole)) a.body.sizes a.body.own a.body.waits r
  not_refused key parked p NotWaiting a (m, is, r) = body_cause p m NotWaiting (seal_apart key m (body_of p) (is ∙ a.whole)) a.body.sizes a.body.own a.body.waits r
  not_refused key parked p NoMemory a r = refl

  pub accepts_so : {A : Type 0} (r : Result A ParkNo) (key parked m : List ℕ) (p : Parked) → sealed One key m ≡ parked → Accepts takes Waits id key parked p → IfErr r (RefusesBody takes Waits id m) → IfErr r (λ why. why ≡ NoMemory)
  accepts_so (Ok x) key parked m p is a h = tt
  accepts_so (Err why) key parked m p is a h = body_cause p m why (seal_apart key m (body_of p) (is ∙ a.whole)) a.body.sizes a.body.own a.body.waits h

  two_causes : (m : List ℕ) (why also : ParkNo) → RefusesBody takes Waits id m why → RefusesBody takes Waits id m also → why ≢ NoMemory → also ≢ NoMemory → why ≡ also
  two_causes m Damaged also r t a b = absurd r
  two_causes m why Damaged r t a b = absurd t
  two_causes m NoMemory also r t a b = absurd (a refl)
  two_causes m why NoMemory r t a b = absurd (b refl)
  two_causes m Body Body r t a b = refl
  two_causes m Body Other r (q, f, s, o) a b = absurd (no_body takes q s (subst (IsNoBody takes) f r))
  two_causes m Body NotWaiting r (q, f, s, own, w) a b = absurd (no_body takes q s (subst (IsNoBody takes) f r))
  two_causes m Other Body (q, f, s, o) r a b = absurd (no_body takes q s (subst (IsNoBody takes) f r))
  two_causes m Other Other r t a b = refl
  two_causes m Other NotWaiting (p, e, sp, o) (q, f, sq, own, w) a b = absurd (o (ap (λ (x : Parked). x.id) (same_bodies takes p q sp sq (sym e ∙ f)) ∙ own))
  two_causes m NotWaiting Body (q, f, s, own, w) r a b = absurd (no_body takes q s (subst (IsNoBody takes) f r))
  two_causes m NotWaiting Other (q, f, sq, own, w) (p, e, sp, o) a b = absurd (o (ap (λ (x : Parked). x.id) (same_bodies takes p q sp sq (sym e ∙ f)) ∙ own))
  two_causes m NotWaiting NotWaiting r t a b = refl

  -- what a record holds, where that is refused
  held : (key parked : List ℕ) (why : ParkNo) → why ≢ Damaged → why ≢ NoMemory → Refuses takes Waits id key parked why → (m : List ℕ) × (sealed One key m ≡ parked) × RefusesBody takes Waits id m why
  held key parked Damaged a b r = absurd (a refl)
  held key parked NoMemory a b r = absurd (b refl)
  held key parked Body a b r = r
  held key parked Other a b r = r
  held key parked NotWaiting a b r = r

  damaged_or_not : (why : ParkNo) → (why ≡ Damaged) ⊎ (why ≢ Damaged)
  damaged_or_not Damaged = inl refl
  damaged_or_not Body = inr (λ e. cc)
  damaged_or_not Other = inr (λ e. cc)
  damaged_or_not NotWaiting = inr (λ e. cc)
  damaged_or_not NoMemory = inr (λ e. cc)

  is_damaged : (key parked : List ℕ) (why : ParkNo) → why ≡ Damaged → Refuses takes Waits id key parked why → (m : List ℕ) → sealed One key m ≡ parked → ⊥
  is_damaged key parked why is r = subst (Refuses takes Waits id key parked) is r

  pub one_cause : (key parked : List ℕ) (why also : ParkNo) → Refuses takes Waits id key parked why → Refuses takes Waits id key parked also → why ≢ NoMemory → also ≢ NoMemory → why ≡ also
  one_cause key parked why also r t a b = elim (damaged_or_not why) [
    | inl d ↦ elim (damaged_or_not also) [
      | inl e ↦ d ∙ sym e
      | inr e ↦ let h = held key parked also e b t in absurd (is_damaged key parked why d r h.0 h.1)
    ]
    | inr d ↦ elim (damaged_or_not also) [
      | inl e ↦ let h = held key parked why d a r in absurd (is_damaged key parked also e t h.0 h.1)
      | inr e ↦
          let h = held key parked why d a r in
          let k = held key parked also e b t in
          two_causes h.0 why also h.2 (subst (λ m. RefusesBody takes Waits id m also) (seal_apart key k.0 h.0 (k.1 ∙ sym h.1)) k.2) a b
    ]
  ]
