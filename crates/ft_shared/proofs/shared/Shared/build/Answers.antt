use Rattle.std.proofs.Common.{rules, ap, ◌∙◌, ◌≡◌, ℕ, List, drop, sym}
use Rattle.ft_shared.specs.declared.law.Opening.{Opening}
use Rattle.ft_shared.specs.declared.law.Account.{Account}
use Rattle.ft_shared.specs.Layout.{pool_at}
use Rattle.ft_shared.specs.Account.{account_of, first_account, opening_account, pool_of}
use Rattle.ft_shared.proofs.Opens.{opens, opening-pool, pool-length}
use Rattle.ft_shared.proofs.shared.Shared.build.Goals as goal

pub of_words-requires : goal.of_words-requires
of_words-requires c =
    let pool = pool_of c.args.sizes.segments c.args.words.now in
    opens _ c.as_slice.result.now pool c.requires.readers.1 (search rules) (search rules)
    (pool-length c.args.sizes.segments c.args.words.now c.requires.fits)
    (ap (λ v. v.items) c.of.ensures ∙ sym c.as_slice.ensures.value) (c.as_slice.ensures.value ∙ c.in_ok-all_words.ensures)
    c.requires.sound

pub returns-clause-writer : goal.returns-clause-writer
returns-clause-writer c =
    let key : Opening = record { sizes = c.args.sizes; version = c.args.version; root = c.args.root; words = c.of.result } in
    let pool : List ℕ = pool_of c.args.sizes.segments c.args.words.now in
    let made = c.in_ok-table.ensures in
    let about : c.in_ok-table.table.table.shared.key ≡ key = made.5 in
    let first : account_of c.in_ok-table.place.me.0 ≡ first_account key = ap (λ m. account_of m.0) made.4 in
    let behind : drop (pool_at c.args.sizes) c.of.result.value.items ≡ pool = ap (λ v. drop (pool_at c.args.sizes) v.items) c.of.ensures
    ∙ (ap (drop (pool_at c.args.sizes)) c.in_ok-all_words.ensures ∙ opening-pool key pool) in
    let account : account_of c.deal.new.place.me.0 ≡
    opening_account c.in_ok-table.table.table.shared.key.sizes c.args.version c.args.root pool =
    ap (λ m. account_of m.0) c.in_ok-passes.ensures.writer ∙
    (ap (λ (a : Account). record a { given = c.args.sizes.readers }) first
    ∙ (λ i. opening_account (sym about i).sizes c.args.version c.args.root (behind i))) in
    let table = c.in_ok-passes.ensures.place ∙ made.2 in
    c.first-writer.ensures ∙ (λ i. record { register = record { table = table i; sizes = (account i).sizes }; account = account i })
