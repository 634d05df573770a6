-- What a machine gives on its way over frames.
use Rattle.std.proofs.Common.{◌≡◌, ◌≤◌, ℕ, List, [], ◌∷◌, ◌++◌, length, true, refl, sym, ap, ◌∙◌, subst}
use Rattle.std.proofs.lemmas.List.{append-nil}
use Rattle.std.proofs.lemmas.List.Elements.{All-head}
use Rattle.anb_base.specs.declared.TheConstants.{ARRIVAL}
use Rattle.anb_frame.specs.Frames.{frame, frames}
use Rattle.anb_plays.specs.Plays.{Played, End, waiting, ends, says, SendsFirst}
use Rattle.anb_plays.proofs.Grows.{sends_saying, sends_on}
use Rattle.anb_machine.specs.Machines.{MachineValue, gives, waits}
use Rattle.anb_park.specs.Going.{AreFrames, RunsTo, RunsElsewhere}
use Rattle.anb_park.proofs.Framed.{first_frame}

pub follows_ended : (p : Played (List ℕ)) (sent left : List (List ℕ)) (x : End) → SendsFirst p sent (ends x left) → (p.sent ≡ sent) × (p.end ≡ x) × (p.left ≡ left)
follows_ended p sent left x f =
    (ap (λ (q : Played (List ℕ)). q.sent) f ∙ append-nil sent, ap (λ (q : Played (List ℕ)). q.end) f, ap (λ (q : Played (List ℕ)). q.left) f)

-- a machine went along the frames x, of which rest is left
pub record Along (old now : MachineValue) (x rest : List ℕ) : Type 0 where
  pub each : (bs : List (List ℕ)) → AreFrames x bs → (left sent : List (List ℕ)) × AreFrames rest left
      × ((more : List (List ℕ)) → SendsFirst (gives old (bs ++ more)) sent (gives now (left ++ more)))

pub along_nothing : (old : MachineValue) (x : List ℕ) → Along old old x x
along_nothing old x = record { each = λ bs a. (bs, [], a, λ more. refl) }

pub along_saying : (old now new : MachineValue) (x rest b : List ℕ) → Along old now x rest → ((xs : List (List ℕ)) → gives now xs ≡ says b (gives new xs)) → Along old new x rest
along_saying old now new x rest b along says = record {
  each = λ bs a.
      let w = along.each bs a in
      (w.0, w.1 ++ b ∷ [], w.2, λ more. sends_saying (gives old (bs ++ more)) (gives now (w.0 ++ more)) (gives new (w.0 ++ more)) w.1 b (w.3 more) (says (w.0 ++ more)));
}

pub along_receiving : (old now mid new : MachineValue) (x rest b behind : List ℕ) → Along old now x rest → ((xs : List (List ℕ)) → gives now xs ≡ gives mid xs)
    → ((xs : List (List ℕ)) → gives mid (b ∷ xs) ≡ gives new xs) → length b ≤ ARRIVAL → rest ≡ frame b ++ behind → Along old new x behind
along_receiving old now mid new x rest b behind along same comes fits e = record { each = each } where
  each : (bs : List (List ℕ)) → AreFrames x bs → (left sent : List (List ℕ)) × AreFrames behind left
      × ((more : List (List ℕ)) → SendsFirst (gives old (bs ++ more)) sent (gives new (left ++ more)))
  each bs a =
      let w = along.each bs a in
      let n = first_frame rest b behind w.0 w.2 fits e in (
        n.0,
        w.1,
        n.2,
        λ more.
            sends_on (gives old (bs ++ more)) (gives now (w.0 ++ more)) (gives new (n.0 ++ more)) w.1 (w.3 more)
            (ap (λ l. gives now (l ++ more)) n.1 ∙ same (b ∷ (n.0 ++ more)) ∙ comes (n.0 ++ more)),
      )

-- it waits, and no frame is left
pub along_to : (old now new : MachineValue) (x rest : List ℕ) (event : ℕ) → Along old now x rest → ((xs : List (List ℕ)) → gives now xs ≡ gives new xs) → gives new [] ≡ ends (waiting event) [] → waits new ≡ true
    → ((b r : List ℕ) → length b ≤ ARRIVAL → rest ≡ frame b ++ r → ⊥) → (bs : List (List ℕ)) → AreFrames x bs → RunsTo old bs new
along_to old now new x rest event along same waiting_now waits_now none bs a = let w = along.each bs a in by w.0 w.1 w.2 w.3 where
  by : (left sent : List (List ℕ)) → AreFrames rest left → ((more : List (List ℕ)) → SendsFirst (gives old (bs ++ more)) sent (gives now (left ++ more))) → RunsTo old bs new
  by (d ∷ ds) sent ar f = absurd (none d (frames ds) (All-head (λ b. length b ≤ ARRIVAL) d ds ar.short) ar.whole)
  by [] sent ar f =
      let ended : SendsFirst (gives old bs) sent (ends (waiting event) []) =
      subst (λ l. SendsFirst (gives old l) sent (ends (waiting event) [])) (append-nil bs) (sends_on (gives old (bs ++ [])) (gives now []) (ends (waiting event) []) sent (f []) (same [] ∙ waiting_now)) in
      let all : sent ≡ (gives old bs).sent = sym (follows_ended (gives old bs) sent [] (waiting event) ended).0 in
      record {
        event = event;
        waiting = waiting_now;
        waits = waits_now;
        comes = λ more. subst (λ l. SendsFirst (gives old (bs ++ more)) l (gives new more)) all (sends_on (gives old (bs ++ more)) (gives now more) (gives new more) sent (f more) (same more));
      }

-- it is over
pub along_elsewhere : (old now : MachineValue) (x rest : List ℕ) (end : End) → Along old now x rest → ((xs : List (List ℕ)) → gives now xs ≡ ends end xs) → ((e : ℕ) → end ≡ waiting e → ⊥)
    → (bs : List (List ℕ)) → AreFrames x bs → RunsElsewhere old bs
along_elsewhere old now x rest end along over other bs a e is used =
    let w = along.each bs a in
    let f = sends_on (gives old (bs ++ [])) (gives now (w.0 ++ [])) (ends end (w.0 ++ [])) w.1 (w.3 []) (over (w.0 ++ [])) in
    let so : (gives old bs).end ≡ end = subst (λ l. (gives old l).end ≡ end) (append-nil bs) (follows_ended (gives old (bs ++ [])) w.1 (w.0 ++ []) end f).1 in
    other e (sym so ∙ is)
