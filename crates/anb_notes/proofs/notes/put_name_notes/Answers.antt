-- The notes of a name one after another, by what the tables have of it.
use Rattle.std.proofs.Common.{◌≡◌, ℕ, List, ◌++◌, length, ap, ◌∙◌, append_assoc}
use Rattle.anb_lemmas.proofs.Results.{on_ok_map}
use Rattle.anb_notes.specs.declared.standing.Standing.TheVariants as standing
use Rattle.anb_notes.specs.Notes.{agent_note, clear_note, made_note}
use Rattle.anb_notes.specs.Places.{bare_keys, first_of, makers, others_keys, places}
use Rattle.anb_notes.proofs.Firsts.{read}
use Rattle.anb_notes.proofs.notes.put_name_notes.Goals as goal

three : (o o1 o2 o3 a b d a1 b1 d1 : List ℕ) → o1 ≡ o ++ a → o2 ≡ o1 ++ b → o3 ≡ o2 ++ d → a ≡ a1 → b ≡ b1 → d ≡ d1 → o3 ≡ o ++ (a1 ++ (b1 ++ d1))
three o o1 o2 o3 a b d a1 b1 d1 h1 h2 h3 ea eb ed =
    h3 ∙ ap (λ l. l ++ d) h2 ∙ append_assoc o1 b d ∙ ap (λ l. l ++ (b ++ d)) h1 ∙ append_assoc o a (b ++ d) ∙ ap (λ l. o ++ (l ++ (b ++ d))) ea ∙ ap (λ l. o ++ (a1 ++ (l ++ d))) eb
    ∙ ap (λ l. o ++ (a1 ++ (b1 ++ l))) ed

pub returns : goal.returns
returns c =
    let p = c.args.protocol.now in
    let x = c.args.x in
    let t = c.args.tables.now in
    let n = length p.atoms in
    let are = c.requires.tables in
    let within = c.requires.within in
    let key = read n (places standing.AsKey p) t.keys.items c.deref.result.now x c.first_at-key.result c.deref.ensures.value are.keys c.first_at-key.ensures within in
    let clear = read n (places standing.InClear p) t.clear.items c.deref-2.result.now x c.first_at-clear.result c.deref-2.ensures.value are.clear c.first_at-clear.ensures within in
    let bare = read n (bare_keys p) t.bare.items c.deref-3.result.now x c.first_at-bare.result c.deref-3.ensures.value are.bare c.first_at-bare.ensures within in
    let role = read n (makers p) t.makers.items c.deref-4.result.now x c.first_at-role.result c.deref-4.ensures.value are.makers c.first_at-role.ensures within in
    let other = read n (others_keys p) t.others.items c.deref-5.result.now x c.first_at-other.result c.deref-5.ensures.value are.others c.first_at-other.ensures within in
    let inside = read n (places standing.Inside p) t.inside.items c.deref-6.result.now x c.first_at-inside.result c.deref-6.ensures.value are.inside c.first_at-inside.ensures within in
    on_ok_map c.put_made_note.result
    (λ last. three _ _ _ _ _ _ _ _ _ _ c.in_ok-put_agent_note.ensures c.in_ok-put_clear_note.ensures last (ap (agent_note p x) key)
    (ap (λ o. clear_note p x o c.first_at-bare.result) clear ∙ ap (clear_note p x (first_of x (places standing.InClear p))) bare)
    (ap (λ o. made_note p x o c.first_at-other.result c.first_at-inside.result) role ∙ ap (λ o. made_note p x (first_of x (makers p)) o c.first_at-inside.result) other
    ∙ ap (made_note p x (first_of x (makers p)) (first_of x (others_keys p))) inside))
    c.put_made_note.ensures
