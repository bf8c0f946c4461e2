-- What reading a page answers, in the words of pages.
use Rattle.std.proofs.Common.{◌≡◌, ◌≤◌, ℕ, Bool, true, false, ◌⊎◌, inl, inr, List, [], ◌∷◌, length, refl, sym, ap, subst, ◌∙◌, arith}
use Rattle.std.specs.Prelude.{IsUtf8, codes}
use Rattle.std.specs.Str.{is_utf8}
use Rattle.std.proofs.lemmas.Bool.{cases_lt}
use Rattle.std.proofs.lemmas.Str.{is_utf8-from_IsUtf8, IsUtf8-from_is_utf8}
use Rattle.std.specs.Cmp.Lexicographic.{same_text}
use Rattle.bw_lang.specs.declared.items.Item.{Item}
use Rattle.bw_lang.specs.declared.items.Item.TheVariants.{Text, Element, Gap}
use Rattle.bw_lang.specs.Document.Forest.{Forest, none, text, gap, element}
use Rattle.bw_lang.specs.Template.Templates.{IsClosedTemplate}
use Rattle.bw_lang.specs.Document.View.{forest}
use Rattle.bw_tmpl.specs.declared.fault.TmplFault.{TmplFault}
use Rattle.bw_tmpl.specs.declared.fault.TmplFault.TheVariants as fault
use Rattle.bw_tmpl.specs.Refusals.{IsClosedRefused}
use Rattle.bw_tmpl.proofs.Answered.{closed_read_or_refused}
use Rattle.bw_tmpl.proofs.Deciding.{one_closed_template, not_both_closed}
use Rattle.bw_lang.proofs.SameNames.{same_self}
use Rattle.bw_read.specs.Element.{element_of}
use Rattle.bw_read.specs.Steps.Faults.{page_fault}
use Rattle.bw_read.specs.Laws.{OnePage, PageOrNone}
use Rattle.bw_read.specs.Pages.{IsRoot, IsPage}
use Rattle.bw_read.specs.Refusals.{IsNoPage}
use Rattle.bw_read.specs.Steps.Root.{is_root}
use Rattle.bw_read.proofs.Elements.{around_element, page_element}

-- the element that is left reads as the page
pub element_reads : (bytes : List ℕ) (f : Forest) → IsPage bytes f → IsClosedTemplate 512 (element_of bytes) f
element_reads bytes f p = subst (λ (l : List ℕ). IsClosedTemplate 512 l f) (sym (page_element bytes f p)) p.reads

pub one_page : OnePage
one_page bytes f g p q = one_closed_template 512 (element_of bytes) f g (element_reads bytes f p) (element_reads bytes g q)

-- ---- a root

pub root_is : (f : Forest) → is_root f ≡ true → IsRoot f
root_is none h = absurd (cc)
root_is (text s f) h = absurd (cc)
root_is (gap g f) h = absurd (cc)
root_is (element tag attrs inner none) h = (attrs, inner, ap (λ (t : List ℕ). element t attrs inner none) (same_text tag (codes "html") (sym h)))
root_is (element tag attrs inner (text s f)) h = absurd (cc)
root_is (element tag attrs inner (gap g f)) h = absurd (cc)
root_is (element tag attrs inner (element t a i f)) h = absurd (cc)

pub is_root_of : (f : Forest) → IsRoot f → is_root f ≡ true
is_root_of f r = ap is_root r.2 ∙ same_self (codes "html")

no_root : (f : Forest) → is_root f ≡ false → IsRoot f → ⊥
no_root f h r = let e = is_root_of f r in cc

-- ---- answers

pub page_read : (bytes : List ℕ) (f : Forest) → length bytes ≤ 4195328 → IsUtf8 bytes → IsClosedTemplate 512 (element_of bytes) f → is_root f ≡ true
    → IsPage bytes f
page_read bytes f short utf8 reads root =
    let a = around_element bytes in
    record {
      front = a.front;
      front_blank = a.front_blank;
      doctype = a.doctype;
      doctype_or_none = a.doctype_or_none;
      inside = element_of bytes;
      reads = reads;
      root = root_is f root;
      back = a.back;
      back_blank = a.back_blank;
      parts = a.parts;
      utf8 = utf8;
      short = short;
    }

pub not_refused : (bytes : List ℕ) (e : TmplFault) → IsClosedRefused 512 (element_of bytes) e → (e ≡ fault.Memory → ⊥) → (f : Forest) → IsPage bytes f → ⊥
not_refused bytes e r n f p = n (not_both_closed 512 (element_of bytes) f e (element_reads bytes f p) r)

-- the fault that reading answers
pub refused : (bytes : List ℕ) (e : TmplFault) → IsClosedRefused 512 (element_of bytes) e → IsNoPage bytes (page_fault e)
refused bytes fault.Memory r = tt
refused bytes fault.Malformed r = not_refused bytes fault.Malformed r (λ h. cc)
refused bytes fault.RepeatedAttribute r = not_refused bytes fault.RepeatedAttribute r (λ h. cc)
refused bytes fault.Mismatched r = not_refused bytes fault.Mismatched r (λ h. cc)
refused bytes fault.Nesting r = not_refused bytes fault.Nesting r (λ h. cc)

-- more items than one aren't a root
pub rootless : (items : List Item) → 2 ≤ length items → is_root (forest items) ≡ false
rootless [] h = absurd (omega arith)
rootless (x ∷ []) h = absurd (omega arith)
rootless (Text s ∷ y ∷ items) h = refl
rootless (Gap g ∷ y ∷ items) h = refl
rootless (Element e ∷ Text s ∷ items) h = refl
rootless (Element e ∷ Gap g ∷ items) h = refl
rootless (Element e ∷ Element f ∷ items) h = refl

pub not_rooted : (bytes : List ℕ) (items : Forest) → IsClosedTemplate 512 (element_of bytes) items → is_root items ≡ false → (f : Forest) → IsPage bytes f → ⊥
not_rooted bytes items reads rootless f p =
    no_root items rootless (subst IsRoot (one_closed_template 512 (element_of bytes) f items (element_reads bytes f p) reads) p.root)

-- ---- there is an answer

abbrev PageOrNoPage : List ℕ → Type 0
PageOrNoPage bytes = ((f : Forest) × IsPage bytes f) ⊎ ((f : Forest) → IsPage bytes f → ⊥)

by_root : (bytes : List ℕ) (f : Forest) → length bytes ≤ 4195328 → IsUtf8 bytes → IsClosedTemplate 512 (element_of bytes) f → (b : Bool)
    → is_root f ≡ b → PageOrNoPage bytes
by_root bytes f short utf8 reads true root = inl (f, page_read bytes f short utf8 reads root)
by_root bytes f short utf8 reads false root = inr (not_rooted bytes f reads root)

by_reading : (bytes : List ℕ) → length bytes ≤ 4195328 → IsUtf8 bytes → PageOrNoPage bytes
by_reading bytes short utf8 = elim (closed_read_or_refused 512 (element_of bytes)) [
  | inl read ↦ by_root bytes read.0 short utf8 read.1 (is_root read.0) refl
  | inr refused ↦ inr (not_refused bytes refused.0 refused.2 refused.1)
]

by_utf8 : (bytes : List ℕ) → length bytes ≤ 4195328 → (b : Bool) → is_utf8 bytes ≡ b → PageOrNoPage bytes
by_utf8 bytes short true h = by_reading bytes short (IsUtf8-from_is_utf8 bytes h)
by_utf8 bytes short false h = inr (λ (f : Forest) (p : IsPage bytes f). let e = is_utf8-from_IsUtf8 bytes p.utf8 in cc)

pub page_or_none : PageOrNone
page_or_none bytes = elim (cases_lt 4195328 (length bytes)) [
  | inl long ↦ inr (λ (f : Forest) (p : IsPage bytes f). absurd (omega (arith, p.short)))
  | inr short ↦ by_utf8 bytes short (is_utf8 bytes) refl
]
