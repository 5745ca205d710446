-- Where calls begin.
mod CallsByShape
