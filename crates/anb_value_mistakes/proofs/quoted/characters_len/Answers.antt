use Rattle.std.proofs.Common.{◌≡◌, ◌≤◌, ◌+◌, ◌-◌, ℕ, List, length, take, drop, sym, ap, ◌∙◌, arith, length-drop}
use Rattle.std.proofs.lemmas.List.{drop-drop, take_all}
use Rattle.anb_value_mistakes.specs.Diagnosis.{character_len, characters_len}
use Rattle.anb_value_mistakes.proofs.Characters.{next_character}
use Rattle.anb_value_mistakes.proofs.quoted.characters_len.Goals as goal

pub characters-preserved : goal.characters-preserved
characters-preserved c =
    let x = c.args.bytes.now in
    let n = c.characters.n in
    let k = c.character_len-more.result in
    let rest = drop n x in
    let same : take (length x - n) rest ≡ rest = take_all (length x - n) rest (omega (arith, length-drop n x)) in
    let is : character_len rest ≡ k = ap character_len (sym same) ∙ sym c.character_len-more.ensures.count in
    let size : length (take (length x - n) rest) ≡ length rest = ap length same in
    let within : k ≤ length rest = omega (arith, c.character_len-more.ensures.within, size) in
    let step = next_character rest k is within in
    let behind : drop k rest ≡ drop (n + k) x = drop-drop k n x in
    let sum : (a : ℕ) → n + (k + a) ≡ n + k + a = λ a. omega arith in
    record {
      within = omega (arith, within, length-drop n x, c.characters.invariant.within);
      so_far = c.characters.invariant.so_far ∙ ap (λ m. n + m) (step ∙ ap (λ (l : List ℕ). k + characters_len 0 l) behind) ∙ sum (characters_len 0 (drop (n + k) x));
    }
