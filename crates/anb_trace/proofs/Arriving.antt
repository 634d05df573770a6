-- The last arrival in each register, an instruction at a time.
use Rattle.std.proofs.Common.{◌≡◌, ◌<◌, ◌+◌, ◌∙◌, ℕ, List, ◌∷◌, ◌++◌, length, drop, replicate, max, get_or, sym, ap, arith}
use Rattle.std.proofs.lemmas.List.{drop_more}
use Rattle.anb_format.specs.Formats.{FormatValue}
use Rattle.anb_code.specs.declared.instr.Instr.{Instr}
use Rattle.anb_code.specs.Registers.{count_written}
use Rattle.std.specs.Prelude.{slice_index}
use Rattle.anb_trace.specs.Arrivals.{arrival_of, arrivals_after, latest, received_by}

next_is : {A : Type 0} (xs : List A) (i : ℕ) (x : A) → i < length xs → x ≡ get_or xs i x → drop i xs ≡ x ∷ drop (i + 1) xs
next_is xs i x h e = drop_more xs i x h ∙ ap (λ y. y ∷ drop (i + 1) xs) (sym e)

pub arrived_next : (formats : List FormatValue) (arrivals new : List ℕ) (received : ℕ) (instrs : List Instr) (i : ℕ) (x : Instr) (whole : List ℕ) → i < length instrs → x ≡ get_or instrs i x
    → new ≡ arrivals ++ replicate (count_written formats x) (arrival_of arrivals received x) → arrivals_after formats arrivals received (drop i instrs) ≡ whole
    → arrivals_after formats new (received + received_by x) (drop (i + 1) instrs) ≡ whole
arrived_next formats arrivals new received instrs i x whole h e put before =
    ap (λ (l : List ℕ). arrivals_after formats l (received + received_by x) (drop (i + 1) instrs)) put
    ∙ sym (ap (λ (l : List Instr). arrivals_after formats arrivals received l) (next_is instrs i x h e)) ∙ before

larger : (last new a b whole : ℕ) → new ≡ max last a → max last (max a b) ≡ whole → max new b ≡ whole
larger last new a b whole e before = omega (arith, e, before)

pub latest_next : (arrivals rs : List ℕ) (i r last new whole : ℕ) → i < length rs → r ≡ get_or rs i r → new ≡ max last (slice_index arrivals r) → max last (latest arrivals (drop i rs)) ≡ whole
    → max new (latest arrivals (drop (i + 1) rs)) ≡ whole
latest_next arrivals rs i r last new whole h e put before =
    larger last new (slice_index arrivals r) (latest arrivals (drop (i + 1) rs)) whole put (ap (λ (l : List ℕ). max last (latest arrivals l)) (sym (next_is rs i r h e)) ∙ before)
