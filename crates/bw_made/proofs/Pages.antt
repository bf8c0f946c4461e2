-- The pages of a service read back.
use Rattle.std.proofs.Common.{◌≡◌, ◌≤◌, ◌⊎◌, ℕ, zero, suc, true, List, [], ◌∷◌, length, subst, inl, inr, arith}
use Rattle.std.specs.Coded.{Coded-set}
use Rattle.std.specs.Fmt.{decimal}
use Rattle.std.specs.List.{AllPass, AllByRecursion, Contains}
use Rattle.std.proofs.Math.Logic.{∥∥₁_elim, ∥∥₁_map}
use Rattle.std.proofs.lemmas.Bool.Decides.{nat_tests}
use Rattle.std.proofs.lemmas.List.Elements.{All-weaker}
use Rattle.std.proofs.lemmas.List.Sums.{AllPass-from_list_all}
use Rattle.bw_http.specs.declared.request.Path.TheVariants as paths
use Rattle.bw_http.specs.Paths.{hex_digits, is_key_digit, spelling}
use Rattle.bw_http.proofs.Spellings.{key_digits}
use Rattle.bw_lang.proofs.Bounds.{nest_bounds}
use Rattle.bw_lang.specs.declared.service.Service.{Service}
use Rattle.bw_lang.specs.Document.Forest.{Forest}
use Rattle.bw_lang.specs.Document.Print.{print, joined}
use Rattle.bw_lang.specs.Encoding.ForestEncoding.{encoded_forest}
use Rattle.bw_lang.specs.Service.Reads.{Reads}
use Rattle.bw_meaning.specs.Values.{Document}
use Rattle.bw_model.specs.Sessions.{Live}
use Rattle.bw_lang.specs.Text.Bytes.{is_word_byte}
use Rattle.bw_page.specs.Bytes.{is_hex_digit}
use Rattle.bw_page.specs.Laws.{turn_target}
use Rattle.bw_page.specs.Pages.{show_page, exit_page}
use Rattle.bw_page.proofs.Sizes.{turn_length, exit_length}
use Rattle.bw_read.specs.Pages.{IsPage}
use Rattle.bw_read.proofs.Back.{shown_reads_back, last_reads_back, made_is_markup, made_document, word_below, target_utf8}
use Rattle.bw_read.proofs.Decided.{one_page, page_or_none}
use Rattle.bw_read.proofs.Utf8.{class_utf8}
use Rattle.bw_typed.proofs.ShortReadable.{readable_has_short_names}
use Rattle.bw_typed.proofs.Utf8.{sessions_are_utf8}
use Rattle.bw_made.specs.Made.{IsPageOf, IsItemsOf, IsTextOutcome}
use Rattle.bw_made.specs.Pages.{PagesAreShown, ShownPagesReadBack, LastPagesReadBack, WaitingIsMade}
use Rattle.bw_made.specs.Worlds.{IsTextTalk}
use Rattle.bw_made.proofs.Decimals.{decimal_digits, decimal_short}
use Rattle.bw_made.proofs.Templates.{made_by_reading, name_is_word}
use Rattle.bw_made.proofs.Whole.{constants_of}
use Rattle.bw_made.proofs.Worlds.{now_comes}

-- ---- targets

key_is_hex : (b : ℕ) → is_key_digit b ≡ true → is_hex_digit b ≡ true
key_is_hex b h = grind (arith, nat_tests)

hex_is : (key : ℕ) → AllPass is_hex_digit (hex_digits 16 key)
hex_is key =
    All-weaker (λ x. is_key_digit x ≡ true) (λ x. is_hex_digit x ≡ true) key_is_hex (hex_digits 16 key)
    (AllPass-from_list_all is_key_digit (hex_digits 16 key) (key_digits key).1)

-- ---- pages

title_short : (bytes : List ℕ) (service : Service) → Reads bytes service → length service.name ≤ 64
title_short bytes service r = (readable_has_short_names service ∣ (bytes, r) ∣₁).own

pub pages_are_shown : PagesAreShown
pages_are_shown service d r p = ∥∥₁_map r (λ x. record {
  measure = d.measure;
  made = made_by_reading x.0 service x.1 d.tree d.measure p.document.made;
  within = p.document.within;
  short = p.short;
})

-- what reads as a page by some way of reading does so
untruncated : (body : List ℕ) (f : Forest) → ∥ IsPage body f ∥₁ → IsPage body f
untruncated body f h = by_case (page_or_none body)
  where
    by_case : ((g : Forest) × IsPage body g) ⊎ ((g : Forest) → IsPage body g → ⊥) → IsPage body f
    by_case (inl (g, k)) = subst (IsPage body) (∥∥₁_elim h (Coded-set encoded_forest g f) (λ p. one_page body g f k p)) k
    by_case (inr n) = absurd (∥∥₁_elim h (λ x y. absurd x) (n f))

shown_back : (bytes : List ℕ) (service : Service) (d : Document) (number key turn : ℕ) → Reads bytes service → IsPageOf (IsItemsOf service) d →
    let page = show_page service.name (spelling (paths.Turn number key turn)) d.tree in IsPage (print page) (joined page)
shown_back bytes service d number key turn r p =
    let n = decimal number in
    let k = hex_digits 16 key in
    let t = decimal turn in
    let made = made_by_reading bytes service r d.tree d.measure p.document.made in
    let word = name_is_word bytes service r in
    let size = turn_length service.name n k t d.tree word (decimal_digits number) (hex_is key) (key_digits key).0 (decimal_digits turn) in
    shown_reads_back service.name (turn_target n k t) d.tree (class_utf8 is_word_byte word_below service.name word)
    (target_utf8 n k t (decimal_digits number) (hex_is key) (decimal_digits turn)) (made_is_markup d.tree d.measure made)
    (omega (arith, nest_bounds d.tree d.measure (made_document d.tree d.measure made), p.document.within.nest))
    (omega (arith, size, title_short bytes service r, decimal_short number, decimal_short turn, p.short))

pub shown_pages_read_back : ShownPagesReadBack
shown_pages_read_back service d number key turn r p = untruncated _ _ (∥∥₁_map r (λ x. shown_back x.0 service d number key turn x.1 p))

last_back : (bytes : List ℕ) (service : Service) (d : Document) → Reads bytes service → IsPageOf (IsItemsOf service) d →
    let page = exit_page service.name d.tree in IsPage (print page) (joined page)
last_back bytes service d r p =
    let made = made_by_reading bytes service r d.tree d.measure p.document.made in
    let word = name_is_word bytes service r in
    last_reads_back service.name d.tree (class_utf8 is_word_byte word_below service.name word) (made_is_markup d.tree d.measure made)
    (omega (arith, nest_bounds d.tree d.measure (made_document d.tree d.measure made), p.document.within.nest))
    (omega (arith, exit_length service.name d.tree word, title_short bytes service r, p.short))

pub last_pages_read_back : LastPagesReadBack
last_pages_read_back service d r p = untruncated _ _ (∥∥₁_map r (λ x. last_back x.0 service d x.1 p))

-- ---- sessions that wait

pub waiting_is_made : WaitingIsMade
waiting_is_made service w l at locals rests shown shared units r h there e =
    let t = among w.live h.live there in
    (subst (IsTextOutcome (IsItemsOf service)) e
    (now_comes service (IsItemsOf service) (constants_of service r) (sessions_are_utf8 service r) l.talk t)).shown_is
  where
    among : (ls : List Live) → AllByRecursion (λ (m : Live). IsTextTalk (IsItemsOf service) m.talk) ls → Contains ls l → IsTextTalk (IsItemsOf service) l.talk
    among [] h c = absurd (omega (arith, c.1))
    among (m ∷ ls) h (zero, below, e) = subst (λ (x : Live). IsTextTalk (IsItemsOf service) x.talk) e h.0
    among (m ∷ ls) h (suc k, below, e) = among ls h.1 (k, omega (arith, below), e)
