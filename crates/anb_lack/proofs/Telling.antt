-- The lines that say why terms are missing.
use Rattle.std.proofs.Common.{◌≡◌, ℕ, ◌+◌, ◌<◌, ◌≤◌, List, [], ◌∷◌, ◌++◌, length, map, drop, get_or, Bool, Some, Vec, refl, sym, ap, ◌∙◌, subst, arith, append-nil, append_assoc, length-append, ⊎_elim}
use Rattle.std.specs.Global.{Global}
use Rattle.std.specs.Prelude.{codes, slice_get}
use Rattle.std.specs.List.{flat_map}
use Rattle.anb_lemmas.proofs.Lists.{drop_next, map_drop_next}
use Rattle.anb_term.specs.Tree.{Tree}
use Rattle.anb_term.proofs.Lists.{slice_get-at, slice_get-last, slice_get-map}
use Rattle.anb_protocol.specs.Protocols.{ProtocolValue}
use Rattle.anb_protocol.specs.Texts.{term_text}
use Rattle.anb_lack.specs.declared.roots.Root.{Root}
use Rattle.anb_lack.specs.Rooted.{root_value}
use Rattle.anb_lack.specs.Roots.{RootValue, doer, doers, knows, makes, or_else, root_line, who}
use Rattle.anb_lack.specs.Rows.{AreRows, IsColumn}

-- ---- who

pub or_else_some : (x y : List ℕ) → 0 < length x → or_else x y ≡ x
or_else_some [] y some = absurd (omega (arith, some))
or_else_some (b ∷ x) y some = refl

pub or_else_none : (x y : List ℕ) → length x ≡ 0 → or_else x y ≡ y
or_else_none [] y none = refl
or_else_none (b ∷ x) y none = absurd (omega (arith, none))

-- nothing came
grown_none : (x y out : List ℕ) → out ≡ x ++ y → length out ≤ length x → (y ≡ []) × (out ≡ x)
grown_none x [] out is h = (refl, is ∙ append-nil x)
grown_none x (b ∷ y) out is h = absurd (omega (arith, ap length is, length-append x (b ∷ y), h))

module _ (p : ProtocolValue) (k : Tree) (start out : List ℕ) (put : out ≡ start ++ doers (knows p k) (codes " knows ") (term_text p k) 0 p.roles) where
  abbrev known : List ℕ
  known = doers (knows p k) (codes " knows ") (term_text p k) 0 p.roles

  abbrev made : List ℕ
  made = doers (makes p k) (codes " makes ") (term_text p k) 0 p.roles

  abbrev nobody : List ℕ
  nobody = codes "; nobody knows " ++ term_text p k

  pub told_known : length start < length out → out ≡ start ++ who p k
  told_known more = put ∙ ap (λ l. start ++ l) (sym (or_else_some known (or_else made nobody) (omega (arith, more, ap length put, length-append start known))))

  pub told_made : (all : List ℕ) → length out ≤ length start → all ≡ out ++ made → length start < length all → all ≡ start ++ who p k
  told_made all none also more =
      let nothing = grown_none start known out put none in
      also ∙ ap (λ l. l ++ made) nothing.1
      ∙ ap (λ l. start ++ l) (sym (ap (λ x. or_else x (or_else made nobody)) nothing.0 ∙ or_else_some made nobody (omega (arith, more, ap length also, length-append out made, ap length nothing.1))))

  pub told_nobody : (all whole : List ℕ) → length out ≤ length start → all ≡ out ++ made → length all ≤ length start → whole ≡ all ++ nobody → whole ≡ start ++ who p k
  told_nobody all whole none also neither last =
      let nothing = grown_none start known out put none in
      let still = grown_none out made all also (omega (arith, neither, ap length nothing.1)) in
      last ∙ ap (λ l. l ++ nobody) (still.1 ∙ nothing.1)
      ∙ ap (λ l. start ++ l) (sym (ap (λ x. or_else x (or_else made nobody)) nothing.0 ∙ ap (λ x. or_else x nobody) still.0))

-- one more role
module _ (does : ℕ → Bool) (verb key : List ℕ) (names : List (List ℕ)) (i : ℕ) (x : List ℕ) (out whole : List ℕ) (h : i < length names) (own : x ≡ get_or names i x) where
  abbrev rest : List ℕ
  rest = doers does verb key (i + 1) (drop (i + 1) names)

  split : doers does verb key i (drop i names) ≡ doer (does i) x verb key ++ rest
  split = ap (doers does verb key i) (drop_next names i x h own)

  pub doer_next : (b : Bool) (out' : List ℕ) → does i ≡ b → out' ≡ out ++ doer b x verb key → out ++ doers does verb key i (drop i names) ≡ whole → out' ++ rest ≡ whole
  doer_next b out' is put so_far =
      ap (λ l. l ++ rest) (put ∙ ap (λ c. out ++ doer c x verb key) (sym is)) ∙ append_assoc out (doer (does i) x verb key) rest ∙ ap (λ l. out ++ l) (sym split) ∙ so_far

-- ---- rows

pub no_rows : (keys : List Tree) (does : Tree → ℕ → Bool) → AreRows 0 keys does []
no_rows keys does = record { long = refl; each = λ role row is. cc }

pub rows_next : (roles : ℕ) (keys : List Tree) (does : Tree → ℕ → Bool) (rows rows' : List (Vec Bool Global)) (row : Vec Bool Global) → AreRows roles keys does rows → rows' ≡ rows ++ row ∷ [] → row.items ≡ map (λ k. does k roles) keys
    → AreRows (roles + 1) keys does rows'
rows_next roles keys does rows rows' row so_far pushed is = record {
  long = omega (arith, ap length pushed, length-append rows (row ∷ []), so_far.long);
  each = λ role r at.
      ⊎_elim (λ h. so_far.each role r h)
      (λ (here, same).
      subst (λ (v : Vec Bool Global). v.items ≡ map (λ k. does k role) keys) same (subst (λ (n : ℕ). row.items ≡ map (λ k. does k n) keys) (sym (here ∙ so_far.long)) is))
      (slice_get-last rows row r role (ap (λ (l : List (Vec Bool Global)). slice_get l role) (sym pushed) ∙ at));
}

-- the column of a root's key
pub column_at : (roots : List Root) (does : Tree → ℕ → Bool) (roles : ℕ) (rows : List (Vec Bool Global)) (i : ℕ) (x : Root) → i < length roots → x ≡ get_or roots i x
    → AreRows roles (map (λ (r : RootValue). r.key) (map root_value roots)) does rows → IsColumn i roles (does (root_value x).key) rows
column_at roots does roles rows i x h own are =
    let here : slice_get (map root_value roots) i ≡ Some (root_value x) = slice_get-map root_value roots i x (slice_get-at roots i x h own) in
    let key : slice_get (map (λ (r : RootValue). r.key) (map root_value roots)) i ≡ Some (root_value x).key = slice_get-map (λ (r : RootValue). r.key) (map root_value roots) i (root_value x) here in
    record {
      long = are.long;
      each = λ role row at.
          ap (λ l. slice_get l i) (are.each role row at) ∙ slice_get-map (λ k. does k role) (map (λ (r : RootValue). r.key) (map root_value roots)) i (root_value x).key key;
    }

-- ---- lines

pub line_next : (p : ProtocolValue) (sender : List ℕ) (roots : List Root) (i : ℕ) (x : Root) (out out' whole : List ℕ) → i < length roots → x ≡ get_or roots i x → out' ≡ out ++ root_line p sender (root_value x)
    → out ++ flat_map (root_line p sender) (map root_value (drop i roots)) ≡ whole → out' ++ flat_map (root_line p sender) (map root_value (drop (i + 1) roots)) ≡ whole
line_next p sender roots i x out out' whole h own put so_far =
    let rest = flat_map (root_line p sender) (map root_value (drop (i + 1) roots)) in
    ap (λ l. l ++ rest) put ∙ append_assoc out (root_line p sender (root_value x)) rest
    ∙ ap (λ l. out ++ l) (ap (flat_map (root_line p sender)) (sym (map_drop_next root_value roots i x h own))) ∙ so_far
