-- How faults are told, from call to call.
use Rattle.std.proofs.Common.{◌≡◌, ℕ, ◌≤◌, List, [], ◌∷◌, Option, refl, ap, ◌∙◌, subst, arith}
use Rattle.anb_base.specs.Moves.{Rose}
use Rattle.anb_base.specs.Wires.{WireState}
use Rattle.anb_session.specs.declared.PlayEnd.{PlayEnd}
use Rattle.anb_session.specs.declared.PlayEnd.TheVariants.{ReadFault, WriteFault, NoMemory}
use Rattle.anb_session.specs.Faults.{IsAnswered, IsQuiet, TellsEnd}

-- ---- a count of faults

-- it stayed
module _ (before now : ℕ) (same : now ≡ before) where
  pub unanswered : (Answered : Type 0) → (Answered → ⊥) → IsAnswered before now Answered
  unanswered Answered never = record {
    rose = λ is. absurd (never is);
    told = λ rose. absurd (omega (arith, same, rose));
    never_falls = omega (arith, same);
  }

  pub answered_later : (later : ℕ) (Answered : Type 0) → IsAnswered now later Answered → IsAnswered before later Answered
  answered_later later Answered is = subst (λ (n : ℕ). IsAnswered n later Answered) same is

-- another answer that comes where this one does
pub answered_as : {before now : ℕ} {A B : Type 0} → (A → B) → (B → A) → IsAnswered before now A → IsAnswered before now B
answered_as there back is = record { rose = λ b. is.rose (back b); told = λ rose. there (is.told rose); never_falls = is.never_falls }

-- ---- a wire

pub quiet_still : (S : WireState) → IsQuiet S S
quiet_still S = record { reads = refl; writes = refl; reached = refl; reach_faults = refl }

pub quiet_joined : (S T U : WireState) → IsQuiet S T → IsQuiet T U → IsQuiet S U
quiet_joined S T U one two = record {
  reads = two.reads ∙ one.reads;
  writes = two.writes ∙ one.writes;
  reached = two.reached ∙ one.reached;
  reach_faults = two.reach_faults ∙ one.reach_faults;
}

-- an end that is no fault
pub ends_quietly : (S T : WireState) (end : PlayEnd) → IsQuiet S T → (end ≡ ReadFault → ⊥) → (end ≡ WriteFault → ⊥) → TellsEnd S T end
ends_quietly S T end quiet no_read no_write = record {
  reading = unanswered S.read_faults T.read_faults quiet.reads (end ≡ ReadFault) no_read;
  writing = unanswered S.write_faults T.write_faults quiet.writes (end ≡ WriteFault) no_write;
  reached = quiet.reached;
  reach_faults = quiet.reach_faults;
}

pub wants_memory : (S : WireState) → TellsEnd S S NoMemory
wants_memory S = ends_quietly S S NoMemory (quiet_still S) (λ is. cc) (λ is. cc)

pub ends_later : (S T U : WireState) (end : PlayEnd) → IsQuiet S T → TellsEnd T U end → TellsEnd S U end
ends_later S T U end quiet tells = record {
  reading = answered_later S.read_faults T.read_faults quiet.reads U.read_faults (end ≡ ReadFault) tells.reading;
  writing = answered_later S.write_faults T.write_faults quiet.writes U.write_faults (end ≡ WriteFault) tells.writing;
  reached = tells.reached ∙ quiet.reached;
  reach_faults = tells.reach_faults ∙ quiet.reach_faults;
}

-- ---- a call of one side

abbrev Side : Type 0
Side = Option (List ℕ) × ℕ

abbrev sides : Side → Side → List Side → List Side
sides x y others = x ∷ y ∷ others

abbrev third : Option (List ℕ) → List Side
third taken_at = (taken_at, 0) ∷ []

-- a count beside, and the places
sides_same : (x y x' y' : Side) (others others' : List Side) → sides x y others ≡ sides x' y' others' → (x.1 ≡ x'.1) × (y.0 ≡ y'.0) × (y.1 ≡ y'.1)
sides_same x y x' y' others others' same =
    let first : x ≡ x' = cc in
    let second : y ≡ y' = cc in
    (ap (λ (v : Side). v.1) first, ap (λ (v : Side). v.0) second, ap (λ (v : Side). v.1) second)

module _ (l t w p m u x q : Option (List ℕ)) (a c e b d f : ℕ) (S T : WireState)
    (is : S ≡ record { left = l; taken_at = t; read_faults = a; written = w; write_faults = c; reached = p; reach_faults = e })
    (now : T ≡ record { left = m; taken_at = u; read_faults = b; written = x; write_faults = d; reached = q; reach_faults = f }) where
  -- the sink and the places stay, beside the source
  module _ (kept : sides (x, d) (q, f) [] ≡ sides (w, c) (p, e) []) where
    pub read_quietly : b ≡ a → IsQuiet S T
    read_quietly reads = let (writes, reached, reaches) = sides_same (x, d) (q, f) (w, c) (p, e) [] [] kept in rw (is, now) (record { reads = reads; writes = writes; reached = reached; reach_faults = reaches })

    pub failed_reading : Rose a b → a ≤ b → TellsEnd S T ReadFault
    failed_reading rose never_falls = let (writes, reached, reaches) = sides_same (x, d) (q, f) (w, c) (p, e) [] [] kept in rw (is, now) (record {
      reading = record { rose = λ _. rose; told = λ _. refl; never_falls = never_falls };
      writing = unanswered c d writes (ReadFault ≡ WriteFault) (λ same. cc);
      reached = reached;
      reach_faults = reaches;
    })

  -- and the source and the places, beside the sink
  module _ (kept : sides (m, b) (q, f) (third u) ≡ sides (l, a) (p, e) (third t)) where
    pub wrote_quietly : d ≡ c → IsQuiet S T
    wrote_quietly writes = let (reads, reached, reaches) = sides_same (m, b) (q, f) (l, a) (p, e) (third u) (third t) kept in rw (is, now) (record { reads = reads; writes = writes; reached = reached; reach_faults = reaches })

    pub failed_writing : Rose c d → c ≤ d → TellsEnd S T WriteFault
    failed_writing rose never_falls = let (reads, reached, reaches) = sides_same (m, b) (q, f) (l, a) (p, e) (third u) (third t) kept in rw (is, now) (record {
      reading = unanswered a b reads (WriteFault ≡ ReadFault) (λ same. cc);
      writing = record { rose = λ _. rose; told = λ _. refl; never_falls = never_falls };
      reached = reached;
      reach_faults = reaches;
    })
