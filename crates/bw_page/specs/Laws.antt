-- Laws of pages.
use Rattle.std.specs.Prelude.{◌≡◌, ◌+◌, ℕ, List, ◌++◌, length, codes}
use Rattle.std.specs.List.{AllPass}
use Rattle.bw_lang.specs.Document.Forest.{Forest}
use Rattle.bw_lang.specs.Document.Print.{print}
use Rattle.bw_lang.specs.Text.Bytes.{is_word_byte, is_digit}
use Rattle.bw_page.specs.Bytes.{is_plain, is_hex_digit}
use Rattle.bw_page.specs.Pages.{show_page, exit_page, show_page_at, exit_page_at}

-- a shown page doesn't depend on the numbers of its wrapper's gaps
abbrev pub ShowsAlike : Type 0
ShowsAlike = (n : ℕ) (title target : List ℕ) (d : Forest) → show_page_at n title target d ≡ show_page title target d

-- nor does a last page
abbrev pub ExitsAlike : Type 0
ExitsAlike = (n : ℕ) (title : List ℕ) (d : Forest) → exit_page_at n title d ≡ exit_page title d

-- the length of a last page
abbrev pub ExitLength : Type 0
ExitLength = (title : List ℕ) (d : Forest) → AllPass is_word_byte title → length (print (exit_page title d)) ≡ 54 + length title + length (print d)

-- the length of a shown page with a target that is printed as it is
abbrev pub ShowLength : Type 0
ShowLength = (title target : List ℕ) (d : Forest) → AllPass is_word_byte title → AllPass is_plain target
    → length (print (show_page title target d)) ≡ 137 + length title + length target + length (print d)

-- the target of a session's turn: /s/NUMBER-KEY/TURN
abbrev pub turn_target : List ℕ → List ℕ → List ℕ → List ℕ
turn_target number key turn = codes "/s/" ++ (number ++ (codes "-" ++ (key ++ (codes "/" ++ turn))))

-- the length of a shown page with the target of a session's turn
abbrev pub TurnLength : Type 0
TurnLength =
    (title number key turn : List ℕ) (d : Forest) → AllPass is_word_byte title → AllPass is_digit number → AllPass is_hex_digit key → length key ≡ 16
    → AllPass is_digit turn
    → length (print (show_page title (turn_target number key turn) d)) ≡ 158 + length title + length number + length turn + length (print d)
