use Rattle.std.proofs.Common.{◌≡◌, ℕ, suc, ap, ◌∙◌, List, ◌+◌, ◌-◌, ◌<◌, length, take, drop, arith, rules, subst, sym}
use Rattle.std.proofs.lemmas.List.{take_all, length-drop}
use Rattle.std.proofs.lemmas.List.Sums.{position_or_len_is}
use Rattle.httparse.specs.Pieces.{is_newline}
use Rattle.bw_http.specs.Replies.{IsLineCut}
use Rattle.bw_http.proofs.Written.{shown_cut}
use Rattle.bw_http.proofs.replies.cut_line.Goals as goal

pub returns : goal.returns
returns c =
    let bytes = c.args.bytes.now in
    let end = c.in_ok-end.end in
    let within : end < length bytes = search rules in
    let next : suc end ≡ end + 1 = omega arith in
    let more : take (length bytes - (end + 1)) (drop (end + 1) bytes) ≡ drop (end + 1) bytes
    = take_all (length bytes - (end + 1)) (drop (end + 1) bytes) (omega (arith, length-drop (end + 1) bytes)) in
    subst (λ (t : List ℕ). IsLineCut bytes (take end bytes) t) (ap (λ (n : ℕ). drop n bytes) next ∙ sym more)
    (shown_cut bytes end (position_or_len_is is_newline bytes end 0 (omega (arith, within)) (search rules) (search rules)) within)
