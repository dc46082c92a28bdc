use Rattle.std.proofs.Common.{◌++◌, ap, ◌∙◌}
use Rattle.ft_format.specs.declared.header.Titles.{Titles}
use Rattle.ft_format.specs.declared.header.Sizes.{Sizes}
use Rattle.ft_format.specs.declared.header.Settings.{Settings}
use Rattle.ft_format.specs.declared.layout.TheConstants.{IDENTIFICATION}
use Rattle.ft_format.specs.Header.{titles_text, sizes_text, settings_text, header_text}
use Rattle.ft_format.specs.Canon.{titles_of, sizes_of, settings_of, order_table}
use Rattle.ft_xmwrite.proofs.Pieces.{five}
use Rattle.ft_xmwrite.proofs.header.put_header.Goals as goal

pub returns : goal.returns
unfolding header_text
returns c =
    let song = c.args.song.now in
    let old = c.args.bytes.now.items in
    let named = c.put.new.bytes.items in
    let sized = c.put_titles.new.bytes.items in
    let set = c.put_sizes.new.bytes.items in
    five c.put_orders.result old named sized set c.put_settings.new.bytes.items c.put_orders.new.bytes.items
    IDENTIFICATION (titles_text (titles_of song)) (sizes_text (sizes_of song)) (settings_text (settings_of song))
    (order_table song.orders)
    c.in_ok-put.ensures
    (c.in_ok-put_titles.ensures ∙ ap (λ (titles : Titles). named ++ titles_text titles) c.titles_of.ensures)
    (c.in_ok-put_sizes.ensures ∙ ap (λ (sizes : Sizes). sized ++ sizes_text sizes) c.sizes_of.ensures)
    (c.in_ok-put_settings.ensures ∙ ap (λ (settings : Settings). set ++ settings_text settings) c.settings_of.ensures)
    c.put_orders.ensures
