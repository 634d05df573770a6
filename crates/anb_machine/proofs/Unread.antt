-- What no act reads makes no difference to what comes.
use Rattle.std.proofs.Common.{◌≡◌, ◌==◌, ◌||◌, ◌+◌, ℕ, zero, suc, List, [], ◌∷◌, ◌++◌, length, map, Bool, true, false, Option, Some, None, refl, sym, ap, ◌∙◌, arith}
use Rattle.std.proofs.Math.Bool.{or-true}
use Rattle.std.specs.Prelude.{slice_get}
use Rattle.std.specs.List.{list_any}
use Rattle.anb_lemmas.proofs.Numbers.{nat_eq-same}
use Rattle.anb_format.specs.Formats.{FormatValue}
use Rattle.anb_term.specs.Value.{Meaning}
use Rattle.anb_term.specs.Lawful.{picked}
use Rattle.anb_plays.specs.Plays.{stopped, ends}
use Rattle.anb_plays.specs.Codes.{Act, takes, draws, receives, sends, works, Work, make, undo, equal}
use Rattle.anb_plays.specs.Exec.{exec, worked, on_written}
use Rattle.anb_plays.specs.Runs.{says_if}
use Rattle.anb_code.specs.declared.instr.Instr.{Instr}
use Rattle.anb_code.specs.declared.instr.Instr.TheVariants.{Take, Fresh, Recv, Hash, Mac, Seal, Unseal, Wrap, Unwrap, Build, Parse, Equal, Send}
use Rattle.anb_code.specs.Meaning.{act_of}
use Rattle.anb_code.specs.Registers.{operands}
use Rattle.anb_code.specs.Uses.{is_among, is_read}

-- the registers that an act reads
abbrev reads : Act → List ℕ
reads (sends n) = n ∷ []
reads (works (make o ns)) = ns
reads (works (undo o ks n)) = ks ++ n ∷ []
reads (works (equal a b)) = a ∷ b ∷ []
reads act = []

abbrev is_used : List Act → ℕ → Bool
is_used acts r = list_any (λ act. is_among (reads act) r) acts

reads_operands : (formats : List FormatValue) (x : Instr) (r : ℕ) → is_among (reads (act_of formats x)) r ≡ is_among (operands x) r
reads_operands formats (Take text) r = refl
reads_operands formats Fresh r = refl
reads_operands formats Recv r = refl
reads_operands formats (Hash a) r = refl
reads_operands formats (Mac k b) r = refl
reads_operands formats (Seal k b) r = refl
reads_operands formats (Unseal k c) r = refl
reads_operands formats (Wrap k d b) r = refl
reads_operands formats (Unwrap k d c) r = refl
reads_operands formats (Build f rs) r = refl
reads_operands formats (Parse f a) r = refl
reads_operands formats (Equal a b) r = refl
reads_operands formats (Send a) r = refl

used_read : (formats : List FormatValue) (instrs : List Instr) (r : ℕ) → is_used (map (act_of formats) instrs) r ≡ is_read instrs r
used_read formats [] r = refl
used_read formats (x ∷ instrs) r = rw (reads_operands formats x r, used_read formats instrs r) refl

among-append : (xs : List ℕ) (n r : ℕ) → is_among (xs ++ n ∷ []) r ≡ (is_among xs r || (n == r))
among-append [] n r = or_false (n == r) where
  or_false : (b : Bool) → (b || false) ≡ b
  or_false true = refl
  or_false false = refl
among-append (x ∷ xs) n r = rw (among-append xs n r) (assoc (x == r) (is_among xs r) (n == r)) where
  assoc : (a b c : Bool) → (a || (b || c)) ≡ ((a || b) || c)
  assoc true b c = refl
  assoc false b c = refl

on_same : {A B : Type 0} (o p : Option A) (f g : A → B) (stop : B) → o ≡ p → ((x : A) → f x ≡ g x) → on_written o f stop ≡ on_written p g stop
on_same o None f g stop e h = rw e refl
on_same o (Some x) f g stop e h = rw e (h x)

module _ {A : Type 0} where
  -- two tables have the same values in these registers
  abbrev Same : (ℕ → Bool) → List A → List A → Type 0
  Same among table other = (r : ℕ) → among r ≡ true → slice_get table r ≡ slice_get other r

  got_longer : (table other ws : List A) (r : ℕ) → length table ≡ length other → slice_get table r ≡ slice_get other r → slice_get (table ++ ws) r ≡ slice_get (other ++ ws) r
  got_longer [] [] ws r e h = refl
  got_longer [] (y ∷ other) ws r e h = absurd (omega (arith, e))
  got_longer (x ∷ table) [] ws r e h = absurd (omega (arith, e))
  got_longer (x ∷ table) (y ∷ other) ws zero e h = h
  got_longer (x ∷ table) (y ∷ other) ws (suc r) e h = got_longer table other ws r (omega (arith, e)) h

  longer : (table other ws : List A) → length table ≡ length other → length (table ++ ws) ≡ length (other ++ ws)
  longer [] [] ws e = refl
  longer [] (y ∷ other) ws e = absurd (omega (arith, e))
  longer (x ∷ table) [] ws e = absurd (omega (arith, e))
  longer (x ∷ table) (y ∷ other) ws e = ap suc (longer table other ws (omega (arith, e)))

  pick_same : (table other : List A) (ns : List ℕ) → Same (is_among ns) table other → picked table ns ≡ picked other ns
  pick_same table other [] h = refl
  pick_same table other (n ∷ ns) h =
      let here : slice_get table n ≡ slice_get other n = h n (ap (λ b. b || is_among ns n) (nat_eq-same n)) in
      let rest = pick_same table other ns (λ r is. h r (ap (λ b. (n == r) || b) is ∙ or-true (n == r))) in
      rw (here, rest) refl

  work_same : (m : Meaning A) (table other : List A) (w : Work) → Same (is_among (reads (works w))) table other → worked m table w ≡ worked m other w
  work_same m table other (make o ns) h = rw (pick_same table other ns h) refl
  work_same m table other (undo o ks n) h =
      let keys = pick_same table other ks (λ r is. h r (among-append ks n r ∙ ap (λ b. b || (n == r)) is)) in
      let of : slice_get table n ≡ slice_get other n = h n (among-append ks n n ∙ ap (λ b. is_among ks n || b) (nat_eq-same n) ∙ or-true (is_among ks n)) in
      rw (keys, of) refl
  work_same m table other (equal a b) h =
      let first : slice_get table a ≡ slice_get other a = h a (ap (λ c. c || (b == a || false)) (nat_eq-same a)) in
      let second : slice_get table b ≡ slice_get other b = h b (ap (λ c. (a == b) || (c || false)) (nat_eq-same b) ∙ or-true (a == b)) in
      rw (first, second) refl

  module _ (m : Meaning A) (draw : ℕ → A) where
    later : (act : Act) (acts : List Act) (table other ws : List A) → length table ≡ length other → Same (is_used (act ∷ acts)) table other → Same (is_used acts) (table ++ ws) (other ++ ws)
    later act acts table other ws long h r is = got_longer table other ws r long (h r (ap (λ b. is_among (reads act) r || b) is ∙ or-true (is_among (reads act) r)))

    stay : (act : Act) (acts : List Act) (table other : List A) → Same (is_used (act ∷ acts)) table other → Same (is_used acts) table other
    stay act acts table other h r is = h r (ap (λ b. is_among (reads act) r || b) is ∙ or-true (is_among (reads act) r))

    now : (act : Act) (acts : List Act) (table other : List A) → Same (is_used (act ∷ acts)) table other → Same (is_among (reads act)) table other
    now act acts table other h r is = h r (ap (λ b. b || is_used acts r) is)

    pub exec_same : (acts : List Act) (table other : List A) (e at i : ℕ) (arrivals : List A) → length table ≡ length other → Same (is_used acts) table other
        → exec m draw acts table e at i arrivals ≡ exec m draw acts other e at i arrivals
    exec_same [] table other e at i arrivals long h = refl
    exec_same (takes ∷ acts) table other e at i arrivals long h = exec_same acts table other e (at + 1) i arrivals long (stay takes acts table other h)
    exec_same (draws ∷ acts) table other e at i arrivals long h =
        exec_same acts (table ++ draw i ∷ []) (other ++ draw i ∷ []) e (at + 1) (i + 1) arrivals (longer table other (draw i ∷ []) long) (later draws acts table other (draw i ∷ []) long h)
    exec_same (receives ∷ acts) table other e at i [] long h = refl
    exec_same (receives ∷ acts) table other e at i (x ∷ arrivals) long h =
        exec_same acts (table ++ x ∷ []) (other ++ x ∷ []) (e + 1) (at + 1) i arrivals (longer table other (x ∷ []) long) (later receives acts table other (x ∷ []) long h)
    exec_same (sends n ∷ acts) table other e at i arrivals long h =
        ap (λ o. says_if o (exec m draw acts table (e + 1) (at + 1) i arrivals)) (now (sends n) acts table other h n (ap (λ b. b || false) (nat_eq-same n)))
        ∙ ap (says_if (slice_get other n)) (exec_same acts table other (e + 1) (at + 1) i arrivals long (stay (sends n) acts table other h))
    exec_same (works w ∷ acts) table other e at i arrivals long h =
        on_same (worked m table w) (worked m other w) (λ ws. exec m draw acts (table ++ ws) e (at + 1) i arrivals) (λ ws. exec m draw acts (other ++ ws) e (at + 1) i arrivals) (ends (stopped e (at + 1)) arrivals)
        (work_same m table other w (now (works w) acts table other h))
        (λ ws. exec_same acts (table ++ ws) (other ++ ws) e (at + 1) i arrivals (longer table other ws long) (later (works w) acts table other ws long h))

    -- the same of instructions
    pub unread_same : (formats : List FormatValue) (instrs : List Instr) (table other : List A) (e at i : ℕ) (arrivals : List A) → length table ≡ length other → Same (is_read instrs) table other
        → exec m draw (map (act_of formats) instrs) table e at i arrivals ≡ exec m draw (map (act_of formats) instrs) other e at i arrivals
    unread_same formats instrs table other e at i arrivals long h = exec_same (map (act_of formats) instrs) table other e at i arrivals long (λ r is. h r (sym (used_read formats instrs r) ∙ is))
