use Rattle.std.proofs.Common.{◌≡◌, ◌++◌, ◌∙◌, ap, ℕ, length}
use Rattle.std.specs.Prelude.{codes}
use Rattle.std.specs.Int.{w32, w64, to_be_bytes}
use Rattle.std.specs.List.{flat_map}
use Rattle.bw_saved.specs.Fields.Spelling.{text}
use Rattle.bw_save.proofs.Chains.{two, five}
use Rattle.bw_saved.specs.Sessions.Layout.{session}
use Rattle.bw_saved.specs.Values.Layout.{variables}
use Rattle.bw_save.proofs.saving.put_file.Goals as goal

pub returns : goal.returns
returns c =
    let s = c.args.saved.now in
    let flow = c.args.flow.now.steps in
    let o0 = c.args.out.now.items in
    let o1 = c.extend_from_slice.new.self.items in
    let o2 = c.put_text.new.out.items in
    let o3 = c.put_u64.new.out.items in
    let o4 = c.put_u32.new.out.items in
    let o5 = c.put_variables.new.out.items in
    let o6 = c.put_u32-2.new.out.items in
    let o7 = c.put_sessions.new.out.items in
    let last : o7 ≡ o6 ++ flat_map (session flow) s.records =
    c.in_ok-put_sessions.ensures ∙ ap (λ rs. o6 ++ flat_map (session flow) rs) c.as_slice.ensures in
    let count : o6 ≡ o5 ++ to_be_bytes w32 (length s.records) = c.in_ok-put_u32-2.ensures ∙ ap (λ (n : ℕ). o5 ++ to_be_bytes w32 n) c.len.ensures in
    two o0 o1 o7 (codes "BWSAVE1\n") (text c.args.text.now ++ (to_be_bytes w64 s.next ++ (to_be_bytes w32 s.first ++ (variables s.shared
    ++ (to_be_bytes w32 (length s.records) ++ flat_map (session flow) s.records)))))
    c.in_ok-extend_from_slice.ensures.items
    (two o1 o2 o7 (text c.args.text.now) (to_be_bytes w64 s.next ++ (to_be_bytes w32 s.first ++ (variables s.shared
    ++ (to_be_bytes w32 (length s.records) ++ flat_map (session flow) s.records)))) c.in_ok-put_text.ensures
    (five o2 o3 o4 o5 o6 o7 (to_be_bytes w64 s.next) (to_be_bytes w32 s.first) (variables s.shared) (to_be_bytes w32 (length s.records))
    (flat_map (session flow) s.records) c.in_ok-put_u64.ensures c.in_ok-put_u32.ensures c.in_ok-put_variables.ensures count last))
