-- The made service of n pages, as a text.
use Rattle.std.specs.Prelude.{ℕ, List, ◌++◌, codes, decimal, flat_map}
use Rattle.std.specs.List.{range_with_len}

-- the template of the page of this number, which has a field and shows what came before
abbrev pub template_line : ℕ → List ℕ
template_line page = codes "html P" ++ (decimal page ++ (codes " = <html><p>" ++ (decimal page ++ codes " <[n]> <input name=\"f\"/></p></html>;\n")))

-- the turn that shows the page of this number
abbrev pub turn_line : ℕ → List ℕ
turn_line page = codes "show P" ++ (decimal page ++ codes "<[n=s] receive [s=f];\n")

-- the made service of n pages, which are shown one after another before the last page
abbrev pub made : ℕ → List ℕ
made n =
    codes "service Made {\n" ++ (flat_map template_line (range_with_len 0 n)
    ++ (codes "html End = <html><p><[n]></p></html>;\nsession go() {\nstring s = \"\";\n" ++ (flat_map turn_line (range_with_len 0 n)
    ++ codes "exit End<[n=s];\n}\n}\n")))
