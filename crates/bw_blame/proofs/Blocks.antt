-- The blames of a block's statements, one after the other.
use Rattle.std.proofs.Common.{◌≡◌, ◌<◌, ℕ, ◌+◌, ◌*◌, List, [], ◌∷◌, ◌++◌, length, get_or, drop, refl, ap, sym, ◌∙◌, arith, append_assoc, append-nil, Some, None}
use Rattle.std.proofs.lemmas.List.{at_drop_more}
use Rattle.bw_lang.specs.declared.service.Service.{Service}
use Rattle.bw_lang.specs.declared.stmt.Kind.TheVariants.{Bool as Truth, Str, Html, Strs}
use Rattle.bw_lang.specs.declared.stmt.Receive.{Receive}
use Rattle.bw_lang.specs.declared.stmt.Stmt.{Stmt}
use Rattle.bw_lang.specs.declared.stmt.Stmt.TheVariants.{Declare, Assign, If, While, Each, Block, Show, Exit}
use Rattle.bw_lang.specs.Service.Code.{Code, done}
use Rattle.bw_lang.specs.Service.CodeView.{before, code}
use Rattle.bw_lang.specs.Service.TermView.{term}
use Rattle.bw_places.specs.Counts.{term_tokens, receive_tokens, code_tokens}
use Rattle.bw_types.specs.ExpressionFaults.{name_unknown, demand_same, kind_of}
use Rattle.bw_types.specs.Faults.{receive_fault}
use Rattle.bw_types.specs.Places.{after}
use Rattle.bw_types.specs.Scopes.{Scope, variable_kind, with_local, scope_behind, behind_each}
use Rattle.bw_blame.specs.declared.site.Site.TheVariants.{Target}
use Rattle.bw_blame.specs.Blames.{Blame, about, these, blames_in, blames_wanted, blames_local, blames_receives, blames_code}

pub one : (a r : List Blame) → a ++ r ≡ (a ++ []) ++ r
one a r = ap (λ x. x ++ r) (sym (append-nil a))

pub two : (a b r : List Blame) → a ++ (b ++ r) ≡ (a ++ (b ++ [])) ++ r
two a b r = sym (append_assoc a b r) ∙ ap (λ x. (a ++ x) ++ r) (sym (append-nil b))

three : (a b c r : List Blame) → a ++ (b ++ (c ++ r)) ≡ (a ++ (b ++ (c ++ []))) ++ r
three a b c r = ap (λ x. a ++ x) (two b c r) ∙ sym (append_assoc a (b ++ (c ++ [])) r)

pub blames_before : (service : Service) (sc : Scope) (d p : ℕ) (s : Stmt) (c : Code)
    → blames_code service sc d p (before s c)
    ≡ blames_code service sc d p (before s done) ++ blames_code service (after sc (before s done)) d (p + code_tokens (before s done)) c
blames_before service sc d p (Declare k w e) c =
    let q : p + 4 + term_tokens (term e) ≡ p + code_tokens (before (Declare k w e) done) = omega arith in
    ap (λ z. blames_local service sc d (p + 1) (p + 3) w k (term e) ++ blames_code service (with_local sc w k) d z c) q
    ∙ one (blames_local service sc d (p + 1) (p + 3) w k (term e)) _
blames_before service sc d p (Assign w e) c =
    let q : p + 3 + term_tokens (term e) ≡ p + code_tokens (before (Assign w e) done) = omega arith in
    let a = about d (these p 1) (name_unknown w (variable_kind service sc w)) in
    let b = blames_in service sc d (p + 2) (term e) in
    let x = about d (these (p + 2) (term_tokens (term e))) (demand_same (variable_kind service sc w) (kind_of service sc (term e))) in
    ap (λ z. a ++ (b ++ (x ++ blames_code service sc d z c))) q ∙ three a b x _
blames_before service sc d p (If t y None) c =
    let q : p + 5 + term_tokens (term t) + code_tokens y ≡ p + code_tokens (before (If t y None) done) = omega arith in
    let a = blames_wanted service sc d (p + 2) Truth (term t) in
    let b = blames_code service sc d (p + 4 + term_tokens (term t)) y in
    ap (λ z. a ++ (b ++ blames_code service (scope_behind sc y) d z c)) q ∙ two a b _
blames_before service sc d p (If t y (Some n)) c =
    let q : p + 8 + term_tokens (term t) + code_tokens y + code_tokens n ≡ p + code_tokens (before (If t y (Some n)) done) = omega arith in
    let a = blames_wanted service sc d (p + 2) Truth (term t) in
    let b = blames_code service sc d (p + 4 + term_tokens (term t)) y in
    let x = blames_code service (scope_behind sc y) d (p + 7 + term_tokens (term t) + code_tokens y) n in
    ap (λ z. a ++ (b ++ (x ++ blames_code service (scope_behind (scope_behind sc y) n) d z c))) q ∙ three a b x _
blames_before service sc d p (While t y) c =
    let q : p + 5 + term_tokens (term t) + code_tokens y ≡ p + code_tokens (before (While t y) done) = omega arith in
    let a = blames_wanted service sc d (p + 2) Truth (term t) in
    let b = blames_code service sc d (p + 4 + term_tokens (term t)) y in
    ap (λ z. a ++ (b ++ blames_code service (scope_behind sc y) d z c)) q ∙ two a b _
blames_before service sc d p (Each w e y) c =
    let q : p + 7 + term_tokens (term e) + code_tokens y ≡ p + code_tokens (before (Each w e y) done) = omega arith in
    let a = blames_local service sc d (p + 2) (p + 4) w Strs (term e) in
    let b = blames_code service (with_local sc w Str) d (p + 6 + term_tokens (term e)) y in
    ap (λ z. a ++ (b ++ blames_code service (behind_each sc w y) d z c)) q ∙ two a b _
blames_before service sc d p (Block y) c =
    let q : p + 2 + code_tokens y ≡ p + code_tokens (before (Block y) done) = omega arith in
    let a = blames_code service sc d (p + 1) y in
    ap (λ z. a ++ blames_code service (scope_behind sc y) d z c) q ∙ one a _
blames_before service sc d p (Show e rs) c =
    let q : p + 2 + term_tokens (term e) + receive_tokens rs ≡ p + code_tokens (before (Show e rs) done) = omega arith in
    let a = blames_wanted service sc d (p + 1) Html (term e) in
    let b = blames_receives service sc d (p + 2 + term_tokens (term e)) rs in
    ap (λ z. a ++ (b ++ blames_code service sc d z c)) q ∙ two a b _
blames_before service sc d p (Exit e) c =
    let q : p + 2 + term_tokens (term e) ≡ p + code_tokens (before (Exit e) done) = omega arith in
    let a = blames_wanted service sc d (p + 1) Html (term e) in
    ap (λ z. a ++ blames_code service sc d z c) q ∙ one a _

pub blames_here : (service : Service) (sc : Scope) (d p : ℕ) (xs : List Stmt) (i : ℕ) (x : Stmt) → x ≡ get_or xs i x → i < length xs
    → blames_code service sc d p (code (drop i xs))
    ≡ blames_code service sc d p (before x done)
    ++ blames_code service (after sc (before x done)) d (p + code_tokens (before x done)) (code (drop (i + 1) xs))
blames_here service sc d p xs i x e h = at_drop_more (λ l. blames_code service sc d p (code l)) xs i x h
    ∙ ap (λ (y : Stmt). blames_code service sc d p (before y (code (drop (i + 1) xs)))) (sym e)
    ∙ blames_before service sc d p x (code (drop (i + 1) xs))

pub receives_here : (service : Service) (sc : Scope) (d p : ℕ) (xs : List Receive) (i : ℕ) (x : Receive) → x ≡ get_or xs i x → i < length xs
    → blames_receives service sc d p (drop i xs)
    ≡ about d (Target (p + 1)) (receive_fault service sc x) ++ blames_receives service sc d (p + 4) (drop (i + 1) xs)
receives_here service sc d p xs i x e h = at_drop_more (blames_receives service sc d p) xs i x h
    ∙ ap (λ (y : Receive). about d (Target (p + 1)) (receive_fault service sc y) ++ blames_receives service sc d (p + 4) (drop (i + 1) xs)) (sym e)
