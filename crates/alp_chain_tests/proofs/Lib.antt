mod FreeLemmas
